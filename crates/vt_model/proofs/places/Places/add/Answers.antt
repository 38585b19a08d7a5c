use Rattle.std.proofs.Common.{◌≡◌, true, false, Some, rules, subst}
use Rattle.std.specs.Prelude.{is_some, string_bytes}
use Rattle.std.specs.Str.{bytes_eq}
use Rattle.std.specs.Map.{update}
use Rattle.std.proofs.lemmas.Map.Text.{hash_map_updates_text}
use Rattle.vt_model.specs.Places.{place_in}
use Rattle.vt_model.specs.declared.places.Places.{Places}
use Rattle.vt_model.proofs.PlacesLemmas.{AddsPlace-present, AddsPlace-new}
use Rattle.vt_model.proofs.places.Places.add.Goals as goal

pub returns-then-contains_key-clause-added : goal.returns-then-contains_key-clause-added
returns-then-contains_key-clause-added c =
    let there : is_some (place_in c.args.self.now c.args.name.now) ≡ true = search rules in
    AddsPlace-present c.args.self.now c.args.name.now c.args.place there

pub returns-clause-added : goal.returns-clause-added
returns-clause-added c =
    let old = c.args.self.now in
    let new : Places = record { table = c.insert.new.self } in
    let fresh : is_some (place_in old c.args.name.now) ≡ false = search rules in
    let key : string_bytes c.in_ok-key.key ≡ c.args.name.now = search rules in
    AddsPlace-new old new c.args.name.now c.args.place fresh
    (λ name. subst (λ bytes. place_in new name ≡ update bytes_eq (place_in old) bytes (Some c.args.place) name) key
    (hash_map_updates_text (string_bytes c.in_ok-key.key) old.table new.table (Some c.args.place) c.in_ok-insert.ensures.updates name))
