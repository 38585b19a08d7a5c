-- The names of an object's targets, by the numbers that a store answers and by the list of all links.
use Rattle.std.proofs.Common.{◌≡◌, ℕ, ◌==◌, ◌&&◌, List, [], ◌∷◌, map, filter, refl, sym, ap, ap₂, ◌∙◌, cond, Bool, true, false, eq-eqb}
use Rattle.std.specs.Prelude.{Contains, Some, option_map, unwrap_or}
use Rattle.std.proofs.lemmas.List.Elements.{All-contains}
use Rattle.vt_base.specs.declared.numbers.ObjId.{ObjId}
use Rattle.vt_base.specs.declared.numbers.RefId.{RefId}
use Rattle.vt_model.specs.Metamodel.{Metamodel}
use Rattle.vt_model.specs.Model.{Model}
use Rattle.vt_model.specs.Fits.{FitsReference}
use Rattle.vt_model.specs.Valid.{IsValid}
use Rattle.vt_model.specs.declared.model.Object.{Object}
use Rattle.vt_model.specs.declared.model.Link.{Link}
use Rattle.vt_facts.proofs.MemberLemmas.{Contains-head, Contains-behind, find-some}
use Rattle.vt_slots.specs.declared.slot.Side.TheVariants.{Outgoing}
use Rattle.vt_graph.specs.Asked.{live_at, gone_at, or_gone, is_at, other_of, others_at}
use Rattle.vt_model_json.specs.Dump.{name_of, links_of, target_names}
use Rattle.vt_model_json.specs.Inside.Shown.{shown_name, shown_names}

-- ---- names

-- a live object is shown by its name
shown_live : (g : Model) (o : ObjId) (x : Object) → live_at g o ≡ Some x → shown_name g o ≡ name_of g o
shown_live g o x found =
    ap (λ r. unwrap_or (or_gone r (gone_at g o)) []) found ∙ sym (ap (λ r. unwrap_or (option_map (λ (object : Object). object.name) r) []) found)

-- so is the target of a link
shown_target : (meta : Metamodel) (g : Model) → IsValid meta g → (link : Link) → Contains g.links link → shown_name g link.target ≡ name_of g link.target
shown_target meta g valid link there =
    let fits = All-contains (FitsReference meta g.live) g.links link valid.links_fit there in
    let live = find-some (λ (object : Object). object.number.0 == link.target.0) g.live _ fits.target.is_live.there (eq-eqb link.target.0 link.target.0 refl) in
    shown_live g link.target live.0 live.1

-- ---- targets

module _ (g : Model) (o : ObjId) (r : RefId) where
  -- the names of the targets among some links
  abbrev shown_among : List Link → List (List ℕ)
  shown_among links = map (shown_name g) (map (other_of Outgoing) (filter (is_at o Outgoing r) links))

  abbrev named_among : List Link → List (List ℕ)
  named_among links = target_names g r.0 (filter (λ link. link.source.0 == o.0) links)

  among : (links : List Link) → ((link : Link) → Contains links link → shown_name g link.target ≡ name_of g link.target) → shown_among links ≡ named_among links
  among [] same = refl
  among (l ∷ links) same = by_source (among links (λ link there. same link (Contains-behind l link links there))) (l.source.0 == o.0)
    where
      by_reference : shown_among links ≡ named_among links → (b : Bool)
          → map (shown_name g) (map (other_of Outgoing) (cond b (l ∷ filter (is_at o Outgoing r) links) (filter (is_at o Outgoing r) links)))
          ≡ map (λ link. name_of g link.target) (cond b (l ∷ filter (λ link. link.reference.0 == r.0) (filter (λ link. link.source.0 == o.0) links)) (filter (λ link. link.reference.0 == r.0) (filter (λ link. link.source.0 == o.0) links)))
      by_reference rest true = ap₂ (λ name names. name ∷ names) (same l (Contains-head l links)) rest
      by_reference rest false = rest

      by_source : shown_among links ≡ named_among links → (b : Bool)
          → map (shown_name g) (map (other_of Outgoing) (cond (b && (l.reference.0 == r.0)) (l ∷ filter (is_at o Outgoing r) links) (filter (is_at o Outgoing r) links)))
          ≡ target_names g r.0 (cond b (l ∷ filter (λ link. link.source.0 == o.0) links) (filter (λ link. link.source.0 == o.0) links))
      by_source rest true = by_reference rest (l.reference.0 == r.0)
      by_source rest false = rest

-- the targets that a store answers are shown by the names of the targets among all links
pub targets_shown : (meta : Metamodel) (g : Model) → IsValid meta g → (o : ObjId) (r : RefId) → shown_names g (others_at g o Outgoing r) ≡ target_names g r.0 (links_of g o)
targets_shown meta g valid o r = among g o r g.links (shown_target meta g valid)
