use Rattle.std.proofs.Common.{◌≡◌, ◌<◌, ◌==◌, ◌∙◌, not, length, map, filter, rules, sym, ap, arith}
use Rattle.std.specs.List.{range_with_len}
use Rattle.wf_model.proofs.Few.{few_units}
use Rattle.wf_model.proofs.Rows.{row_len}
use Rattle.wf_parts.specs.Peers.{known_of, peers_of}
use Rattle.wf_partition.specs.Marked.{unit_bits}
use Rattle.wf_partition.proofs.Shared.{id_kept, id_left, bits_got}
use Rattle.wf_partition.proofs.peers.peers_of.Goals as goal
use Rattle.wf_partition.proofs.peers.peers_of.Goals.{then-is_peer+in_ok-known+in_ok-push, else-is_peer}

pub overflow_cast-v : goal.overflow_cast-v
overflow_cast-v c =
    let within : c.loop-v.v < length c.args.all.now = search rules in
    omega (arith, row_len (unit_bits c.args.chart.now) (length c.args.chart.now.units) c.args.all.now c.requires.all, few_units c.args.chart.now c.requires.accepted)

pub known_of-requires-clause-peer : goal.known_of-requires-clause-peer
known_of-requires-clause-peer c =
    let within : c.loop-v.v < length c.args.all.now = search rules in
    let got = bits_got c.args.chart.now c.loop-v.v c.args.all.now c.index-all-v.result c.requires.all within in
    let at = c.index-all-v.is ∙ got in
    search (got, at)

pub loop-v-preserved : goal.loop-v-preserved
loop-v-preserved c =
    let chart = c.args.chart.now in
    let u = c.args.unit.0 in
    elim c.if-is_peer.branch [
      | then-is_peer+in_ok-known+in_ok-push w ↦ w.peers-is
          ∙ id_kept (known_of chart u) (λ v. not (v == u)) c.loop-v.v _ c.loop-v.peers w.push.new.self w.in_ok-known.ensures (sym c.is_peer.ensures ∙ w.if-is_peer.true) c.loop-v.invariant w.in_ok-push.ensures.ok
      | else-is_peer w ↦ w.peers-is ∙ id_left (known_of chart u) (λ v. not (v == u)) c.loop-v.v c.loop-v.peers (sym c.is_peer.ensures ∙ w.if-is_peer.false) c.loop-v.invariant
    ]

pub returns : goal.returns
unfolding peers_of
returns c =
    let all : c.loop-v.v ≡ length c.args.all.now = search rules in
    c.loop-v.invariant
    ∙ ap (λ n. map (known_of c.args.chart.now c.args.unit.0) (filter (λ v. not (v == c.args.unit.0)) (range_with_len 0 n)))
    (all ∙ row_len (unit_bits c.args.chart.now) (length c.args.chart.now.units) c.args.all.now c.requires.all)
