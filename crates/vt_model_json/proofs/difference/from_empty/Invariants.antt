use Rattle.vt_model_json.proofs.difference.from_empty.Given as goal

-- the ledger is the new one's
abbrev pub ghosts-counted : goal.ghosts-counted
ghosts-counted a = record { name = a.blank.name; parts = a.blank.parts }
