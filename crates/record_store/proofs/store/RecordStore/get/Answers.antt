use Rattle.record_store.proofs.Getting.{still_stands}
use Rattle.record_store.proofs.store.RecordStore.get.Goals as goal

pub returns-clause-stands : goal.returns-clause-stands
returns-clause-stands g c =
    still_stands c.args.self.now.len (g.D.Disk.told c.args.disk.now) (g.D.Disk.told c.read_slot.new.disk) c.requires.stands
    c.read_slot.ensures.model
