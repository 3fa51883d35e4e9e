use Rattle.script_writer.proofs.ticks.put_wires.Goals as goal

pub returns-clause-text : goal.returns-clause-text
returns-clause-text g c = rw (c.hex_word.ensures, c.hex_word-2.ensures) at c.put_all.ensures.text
