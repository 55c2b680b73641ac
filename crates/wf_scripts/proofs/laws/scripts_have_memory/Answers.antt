use Rattle.std.proofs.Common.{subst}
use Rattle.wf_scripts.proofs.Counted.{IsNamed, script_named}
use Rattle.wf_scripts.proofs.laws.scripts_have_memory.Goals as goal

pub returns : goal.returns
returns g c = λ chart script out. subst IsNamed out (script_named g.G.Grammar.says chart script)
