use Rattle.std.proofs.Common.{◌≡◌, ◌++◌, ◌∙◌, List, ap, append_assoc, codes, decimal, string_bytes, sym, ℕ}
use Rattle.vt_cli.specs.Refusals.{refusal_name}
use Rattle.vt_cli.proofs.replies.stopped.Goals as goal

-- the reason is the refusal's name
pub returns : goal.returns
returns c =
    let name_is : c.name-name.result.now ≡ refusal_name c.args.why = c.name-name.ensures in
    let text_is : string_bytes c.in_ok-format.field-0 ≡ codes "refused at " ++ (decimal c.args.at ++ (codes " " ++ c.name-name.result.now)) = c.in_ok-format.ensures.ok in
    text_is ∙ ap (λ (n : List ℕ). codes "refused at " ++ (decimal c.args.at ++ (codes " " ++ n))) name_is
    ∙ ap (λ (rest : List ℕ). codes "refused at " ++ rest) (sym (append_assoc (decimal c.args.at) (codes " ") (refusal_name c.args.why)))
