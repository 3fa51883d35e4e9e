use Rattle.std.proofs.Common.{length, ap, subst}
use Rattle.record_disk.specs.Disk.{Writes}
use Rattle.record_disk.specs.Image.{content_of, image_in}
use Rattle.record_disk.specs.Log.{LogData, state_of}
use Rattle.record_disk.specs.Memory.{MemoryData, state_in}
use Rattle.record_disk.proofs.Logged.{writes_none, tore, wrote, written}
use Rattle.record_disk.proofs.Mirrored as mirrored
use Rattle.record_disk.proofs.memory.MemoryDiskDisk.write_at.Goals as goal

pub returns-then-is_full-clause-model : goal.returns-then-is_full-clause-model
returns-then-is_full-clause-model c =
    let s = c.self.inside in
    let count = length c.args.bytes.now in
    let here = state_of (content_of s.first.items) s.log.entries in
    subst (λ (d : MemoryData). Writes c.args.at count (state_in d) here) c.self.view_is (writes_none c.args.at count here)

pub invariant_of-self-then-fails : goal.invariant_of-self-then-fails
invariant_of-self-then-fails c =
    let s = c.self.inside in
    let noted = ap (λ (l : LogData). l.entries) c.note.ensures in (
      c.self.invariant.0,
      mirrored.tore (content_of s.first.items) s.log.entries _ (image_in s.mirror) (image_in c.tear.new.self)
          c.args.at (length c.args.bytes.now) noted c.self.invariant.1 c.tear.ensures,
    )

pub returns-then-fails-clause-model : goal.returns-then-fails-clause-model
returns-then-fails-clause-model c =
    let s = c.self.inside in
    let first = content_of s.first.items in
    let new = c.note.new.self.entries in
    let count = length c.args.bytes.now in
    let noted = ap (λ (l : LogData). l.entries) c.note.ensures in
    subst (λ (d : MemoryData). Writes c.args.at count (state_in d) (state_of first new)) c.self.view_is
    (tore first s.log.entries new c.args.at count noted)

pub invariant_of-self-2 : goal.invariant_of-self-2
invariant_of-self-2 c =
    let s = c.self.inside in
    let noted = ap (λ (l : LogData). l.entries) c.note-2.ensures in (
      c.self.invariant.0,
      mirrored.wrote (content_of s.first.items) s.log.entries _ (image_in s.mirror) (image_in c.write.new.self)
          c.args.at (length c.args.bytes.now) c.args.bytes.now c.padded.result noted c.padded.ensures c.self.invariant.1 c.write.ensures,
    )

pub returns-clause-model : goal.returns-clause-model
returns-clause-model c =
    let s = c.self.inside in
    let first = content_of s.first.items in
    let new = c.note-2.new.self.entries in
    let count = length c.args.bytes.now in
    let noted = ap (λ (l : LogData). l.entries) c.note-2.ensures in
    subst (λ (d : MemoryData). Writes c.args.at count (state_in d) (state_of first new)) c.self.view_is
    (wrote first s.log.entries new c.args.at count c.padded.result noted)

pub returns-clause-written : goal.returns-clause-written
returns-clause-written c =
    let s = c.self.inside in
    written (content_of s.first.items) s.log.entries c.note-2.new.self.entries c.args.at c.padded.result c.args.bytes.now
    (ap (λ (l : LogData). l.entries) c.note-2.ensures) c.padded.ensures
