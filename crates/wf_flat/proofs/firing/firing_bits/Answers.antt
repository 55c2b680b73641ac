use Rattle.std.proofs.Common.{rules, ◌≤◌, ◌∙◌, ◌*◌, ap, length, arith}
use Rattle.wf_parts.specs.Rows.{row_of}
use Rattle.wf_parts.proofs.Blocking.{length_mapped}
use Rattle.wf_views.specs.OwnSteps.{is_ready_in}
use Rattle.wf_flat.specs.Sighted.{shown_by}
use Rattle.wf_flat.proofs.Masking.{fires_by_rows}
use Rattle.wf_flat.proofs.firing.firing_bits.Goals as goal

pub fires-requires : goal.fires-requires
fires-requires g c =
    let long : length c.args.rows.now ≤ 64 * g.row.W = omega (arith, ap length c.requires.rows, length_mapped (row_of (64 * g.row.W) c.args.transitions.now) c.args.transitions.now, c.requires.long) in
    (search rules, (c.requires.some, (c.requires.few, long)))

pub returns : goal.returns
returns g c =
    c.fires.ensures
    ∙ fires_by_rows (64 * g.row.W) (is_ready_in (shown_by c.args.sight.now)) c.args.transitions.now c.enabled_bits.result c.args.rows.now c.requires.long c.enabled_bits.ensures c.requires.rows
