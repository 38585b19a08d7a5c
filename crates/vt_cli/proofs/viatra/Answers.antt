use Rattle.vt_cli.proofs.AnswerLemmas.{answered_done, answered_refused, usage, unread, unwritten, out_of_memory, completed}
use Rattle.vt_cli.proofs.viatra.Goals as goal

-- the text that is due was written whole
pub returns-in-Ok-clause-done : goal.returns-in-Ok-clause-done
returns-in-Ok-clause-done g c =
    let d = c.deliver.ensures.delivered in
    answered_done c.args.words.now _ _ _ _ d.0 _ _ _ _ _ (c.in-Ok.ensures.prepared d.0 d.1) d.2

pub returns-in-Ok-clause-refused : goal.returns-in-Ok-clause-refused
returns-in-Ok-clause-refused g c =
    let d = c.deliver.ensures.delivered in
    answered_refused c.args.words.now _ _ _ _ d.0 _ _ _ _ _ (c.in-Ok.ensures.prepared d.0 d.1) d.2

pub returns-in-Ok-clause-usage : goal.returns-in-Ok-clause-usage
returns-in-Ok-clause-usage g c =
    let d = c.deliver.ensures.delivered in
    usage c.args.words.now _ _ _ _ d.0 _ _ _ _ _ (c.in-Ok.ensures.prepared d.0 d.1) d.2

-- the line of the file that could not be read was written
pub returns-in-Ok-clause-read_fault : goal.returns-in-Ok-clause-read_fault
returns-in-Ok-clause-read_fault g c =
    let d = c.deliver.ensures.delivered in
    unread c.args.words.now _ _ _ _ d.0 _ _ _ _ _ (c.in-Ok.ensures.prepared d.0 d.1) d.2

-- a prefix of the text was written
pub returns-in-Ok-clause-write_fault : goal.returns-in-Ok-clause-write_fault
returns-in-Ok-clause-write_fault g c =
    let d = c.deliver.ensures.delivered in
    unwritten c.args.words.now _ _ _ _ d.0 _ _ _ _ _ (c.in-Ok.ensures.prepared d.0 d.1) d.2

pub returns-in-Ok-clause-no_memory : goal.returns-in-Ok-clause-no_memory
returns-in-Ok-clause-no_memory g c =
    let d = c.deliver.ensures.delivered in
    out_of_memory c.args.words.now _ _ _ _ d.0 _ _ _ _ _ (c.in-Ok.ensures.prepared d.0 d.1) d.2

-- no device failed
pub returns-in-Ok-clause-completes : goal.returns-in-Ok-clause-completes
returns-in-Ok-clause-completes g c =
    let d = c.deliver.ensures.delivered in
    completed c.args.words.now _ _ _ _ d.0 _ _ _ _ _ (c.in-Ok.ensures.prepared d.0 d.1) d.2
