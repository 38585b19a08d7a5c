use Rattle.vt_memory.proofs.tests.agrees.Given as goal

-- the ledger is the new one's
abbrev pub ghosts-agree : goal.ghosts-agree
ghosts-agree a = record { name = a.blank.name; parts = a.blank.parts }
