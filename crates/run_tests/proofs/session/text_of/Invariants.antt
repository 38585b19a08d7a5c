use Rattle.run_tests.proofs.session.text_of.Given as goal

-- the ledger is the new one's
abbrev pub ghosts-answers : goal.ghosts-answers
ghosts-answers a = record { name = a.blank.name; parts = a.blank.parts }
