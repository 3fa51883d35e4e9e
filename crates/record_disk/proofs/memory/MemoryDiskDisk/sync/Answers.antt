use Rattle.std.proofs.Common.{ap, subst}
use Rattle.record_disk.specs.Disk.{Syncs, IsSynced}
use Rattle.record_disk.specs.Image.{content_of, image_in}
use Rattle.record_disk.specs.Log.{LogData, state_of}
use Rattle.record_disk.specs.Memory.{MemoryData, state_in}
use Rattle.record_disk.proofs.Logged.{not_synced, synced, is_synced}
use Rattle.record_disk.proofs.Mirrored as mirrored
use Rattle.record_disk.proofs.memory.MemoryDiskDisk.sync.Goals as goal

pub invariant_of-self-then-fails : goal.invariant_of-self-then-fails
invariant_of-self-then-fails c =
    let s = c.self.inside in
    let noted = ap (λ (l : LogData). l.entries) c.note.ensures in
    (c.self.invariant.0, mirrored.not_synced (content_of s.first.items) s.log.entries _ (image_in s.mirror) noted c.self.invariant.1)

pub returns-then-fails-clause-model : goal.returns-then-fails-clause-model
returns-then-fails-clause-model c =
    let s = c.self.inside in
    let first = content_of s.first.items in
    let new = c.note.new.self.entries in
    let noted = ap (λ (l : LogData). l.entries) c.note.ensures in
    subst (λ (d : MemoryData). Syncs (state_in d) (state_of first new)) c.self.view_is (not_synced first s.log.entries new noted)

pub invariant_of-self-2 : goal.invariant_of-self-2
invariant_of-self-2 c =
    let s = c.self.inside in
    let noted = ap (λ (l : LogData). l.entries) c.note-2.ensures in (
      c.self.invariant.0,
      mirrored.synced (content_of s.first.items) s.log.entries _ (image_in s.mirror) (image_in c.sync.new.self) noted
          c.self.invariant.1 c.sync.ensures,
    )

pub returns-clause-model : goal.returns-clause-model
returns-clause-model c =
    let s = c.self.inside in
    let first = content_of s.first.items in
    let new = c.note-2.new.self.entries in
    let noted = ap (λ (l : LogData). l.entries) c.note-2.ensures in
    subst (λ (d : MemoryData). Syncs (state_in d) (state_of first new)) c.self.view_is (synced first s.log.entries new noted)

pub returns-clause-synced : goal.returns-clause-synced
returns-clause-synced c =
    let s = c.self.inside in
    let first = content_of s.first.items in
    let new = c.note-2.new.self.entries in
    let noted = ap (λ (l : LogData). l.entries) c.note-2.ensures in
    subst (λ (d : MemoryData). IsSynced (state_in d) (state_of first new)) c.self.view_is (is_synced first s.log.entries new noted)
