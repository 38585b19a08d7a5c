use Rattle.vt_memory.proofs.tests.net.is_told.Given as goal

-- the ledger is the new one's
abbrev pub ghosts-agrees : goal.ghosts-agrees
ghosts-agrees a = record { name = a.blank.name; parts = a.blank.parts }
