-- Of other calls. Whether two updates are one.
use Rattle.std.specs.Prelude.{◌==◌, ◌&&◌, Bool}
use Rattle.std.specs.Cmp.Lexicographic.{pointwise}
use Rattle.wf_model.specs.declared.update.Write.{Write}
use Rattle.wf_model.specs.declared.update.StartAt.{StartAt}
use Rattle.wf_model.specs.declared.update.Update.{Update}
use Rattle.wf_model.specs.Values.{is_equal}
use Rattle.wf_machine.specs.Lines.{same_outer}

abbrev pub same_write : Write → Write → Bool
same_write a b = (a.var.0 == b.var.0) && ((a.trans.0 == b.trans.0) && is_equal a.val b.val)

abbrev pub same_start : StartAt → StartAt → Bool
same_start a b = (a.act.0 == b.act.0) && ((a.trans.0 == b.trans.0) && (a.place == b.place))

-- they are the same in each field
unfoldable pub same_update : Update → Update → Bool
same_update a b =
    (a.from.0 == b.from.0) && ((a.step == b.step) && (pointwise (λ s t. s.0 == t.0) a.flips b.flips && (pointwise same_write a.writes b.writes && (pointwise (λ d e. d.0 == e.0) a.raised b.raised
    && (pointwise same_start a.starts b.starts && (pointwise (λ s t. s.0 == t.0) a.fired b.fired && pointwise same_outer a.outer b.outer))))))
