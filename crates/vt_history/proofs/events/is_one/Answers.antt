use Rattle.std.proofs.Common.{sym, ap, ◌∙◌}
use Rattle.vt_history.specs.Inside.Touching.{is_one}
use Rattle.vt_history.proofs.TouchingLemmas.{is_ok-has}
use Rattle.vt_history.proofs.events.is_one.Goals as goal

-- an object is searched for
pub returns-in-Obj : goal.returns-in-Obj
returns-in-Obj c =
    c.is_ok.ensures.value
    ∙ is_ok-has c.args.objects.now c.in-Obj.o c.binary_search.result c.requires.rise c.binary_search.ensures.bound c.binary_search.ensures.position
    ∙ ap (is_one c.args.objects.now) (sym c.in-Obj.is)
