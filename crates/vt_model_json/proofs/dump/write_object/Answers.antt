use Rattle.std.proofs.Common.{◌≡◌, ◌++◌, [], ◌∷◌, ap, ◌∙◌, codes, List}
use Rattle.json.specs.Token.{Token, begin_object, key}
use Rattle.json.specs.Tree.{json_tokens, members_tokens}
use Rattle.serde_json.specs.Data.{object, no_members}
use Rattle.serde_json.specs.Written.{outline, members_outline}
use Rattle.vt_model_json.specs.Dump.{attribute_members, values_of}
use Rattle.vt_model_json.specs.Inside.Entries.{from_class}
use Rattle.vt_model_json.proofs.EntryLemmas.{part_joined}
use Rattle.vt_model_json.proofs.dump.write_object.Goals as goal

-- its attributes go out, and then what comes after them
pub returns-clause-object : goal.returns-clause-object
returns-clause-object c =
    let meta = c.args.store.now.meta in
    let g = c.args.store.now.model in
    let attributes : List Token = json_tokens (outline (object (attribute_members meta no_members (values_of g c.args.number)))) in
    let rest : List Token = members_tokens (members_outline (from_class meta g c.args.number c.args.class)) in
    c.in_ok-write_from_class.ensures.members
    ∙ ap (λ ts. ts ++ rest) (c.in_ok-write_attributes.ensures.attributes ∙ ap (λ ts. ts ++ attributes) (c.in_ok-key.ensures.ok ∙ ap (λ ts. ts ++ key (codes "attributes") ∷ []) c.in_ok-begin_object.ensures.ok))
    ∙ part_joined c.args.out.now.tokens begin_object (key (codes "attributes")) attributes rest
