use Rattle.run_core.proofs.text.Text.put.Goals as goal

pub returns-in-CannotRead-clause-whole : goal.returns-in-CannotRead-clause-whole
returns-in-CannotRead-clause-whole g c = rw c.in-CannotRead.is (rw c.as_bytes.ensures.value at c.put_pieces.ensures.whole)

pub returns-in-Fixed-clause-whole : goal.returns-in-Fixed-clause-whole
returns-in-Fixed-clause-whole g c = rw c.in-Fixed.is c.put_all.ensures.whole
