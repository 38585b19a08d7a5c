use Rattle.vt_dump_law.proofs.DumpLoads.{loaded-dump}
use Rattle.vt_dump_law.proofs.laws.dump_loads_back.Goals as goal

pub returns : goal.returns
returns c = loaded-dump
