use Rattle.vt_graph.proofs.Linked.Fitting.{has_room, has_class}
use Rattle.vt_graph.proofs.graph.Graph.meta.Goals as goal

pub returns-clause-room : goal.returns-clause-room
returns-clause-room c = has_room _ _ _ _ c.self.view_is c.self.invariant.0

pub returns-clause-classes : goal.returns-clause-classes
returns-clause-classes c = has_class _ _ _ _ c.self.view_is c.self.invariant.0
