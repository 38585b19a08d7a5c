use Rattle.ground_tests.proofs.base.a_counter_can_be_had_and_ticks.Given as goal

-- the ledger is the new one's
abbrev pub ghosts-count : goal.ghosts-count
ghosts-count a = record { name = a.blank.name; parts = a.blank.parts }
