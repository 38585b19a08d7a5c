-- What is seen of a command, and of a store.
use Rattle.std.specs.Prelude.{zip}
use Rattle.vt_graph.specs.Held.{Held}
use Rattle.vt_cli.specs.Command as command
use Rattle.vt_cli.specs.Result.{Loaded}
use Rattle.vt_cli.specs.declared.command.Command.{Command}

-- a command as its contract sees it
abbrev pub seen : Command → command.Command
seen c = record { task = c.task; files = zip c.roles.now c.names.now }

-- a store's model, with its metamodel
abbrev pub loaded_of : Held → Loaded
loaded_of s = record { meta = s.meta; model = s.model }
