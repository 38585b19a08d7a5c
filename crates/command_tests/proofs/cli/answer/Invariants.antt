use Rattle.command_tests.proofs.cli.answer.Given as goal

-- the ledger is the new one's
abbrev pub ghosts-run : goal.ghosts-run
ghosts-run a = record { name = a.blank.name; parts = a.blank.parts }
