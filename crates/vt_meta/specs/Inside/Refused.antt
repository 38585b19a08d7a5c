-- The fault that a document with its shape is refused for.
use Rattle.vt_model.specs.Metamodel.{Metamodel}
use Rattle.vt_meta.specs.Faults.{Fault}
use Rattle.vt_meta.specs.Reading.{unless_faulty, IsFaultOf}
use Rattle.vt_meta.specs.declared.fault.MetaFault.{MetaFault}
use Rattle.std.specs.Prelude.{Option}

-- a call answers the first fault that a document has, whatever metamodel it would make
abbrev pub IsFaultIn : MetaFault → Option Fault → Type 0
IsFaultIn fault first = (meta : Metamodel) → IsFaultOf fault (unless_faulty first meta)
