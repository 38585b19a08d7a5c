use Rattle.std.proofs.Common.{◌∙◌}
use Rattle.vt_store.proofs.Deleting.Waiting.{bare_no_links, bare_no_values, buried_is}
use Rattle.vt_store.proofs.deletion.bury.Goals as goal

pub bury-requires-clause-no_links : goal.bury-requires-clause-no_links
bury-requires-clause-no_links c = bare_no_links c.args.graph.now.model c.args.x c.requires.bare

pub bury-requires-clause-no_values : goal.bury-requires-clause-no_values
bury-requires-clause-no_values c = bare_no_values c.args.graph.now.model c.args.x c.requires.bare

pub returns-clause-added : goal.returns-clause-added
returns-clause-added c =
    let pushed = c.push.ensures.added in
    record {
      one = c.bury.result;
      added = rw c.unwrap.ensures at pushed;
      step = record {
        meta = c.bury.ensures.meta;
        model = c.bury.ensures.buried ∙ buried_is c.args.graph.now.model c.args.x c.bury.result.object c.bury.ensures.was.object;
        lived = c.bury.ensures.was.object;
        of = c.bury.ensures.was.meta;
        own_room = c.bury.ensures.was.room;
        room = c.bury.ensures.room;
        was = c.bury.ensures.was.class;
        class = c.bury.ensures.class;
      };
    }
