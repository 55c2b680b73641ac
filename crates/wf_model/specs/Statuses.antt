-- Of other calls. The numbers that the program ends with.
use Rattle.std.specs.Prelude.{ℕ}
use Rattle.wf_model.specs.declared.status.Status.{Status}
use Rattle.wf_model.specs.declared.status.Status.TheVariants as status

abbrev pub number_of : Status → ℕ
number_of status.Ok = 0
number_of status.Words = 1
number_of status.ChartRefused = 2
number_of status.ScriptRefused = 3
number_of status.ReadFault = 4
number_of status.WriteFault = 5
number_of status.DiskFault = 6
number_of status.NoMemory = 7
number_of status.Limit = 8
number_of status.Journals = 9
number_of status.Unbuilt = 10
