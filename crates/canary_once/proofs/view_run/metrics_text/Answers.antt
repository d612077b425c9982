use Rattle.std.proofs.Common.{◌≡◌, ℕ, List, [], ◌∷◌, ◌++◌, length, ap, ◌∙◌, arith}
use Rattle.std.specs.Prelude.{string_bytes, min, map}
use Rattle.std.specs.List.{zip}
use Rattle.canary_release.specs.Replies.{bracketed}
use Rattle.canary_metric.specs.Counts.{Counts}
use Rattle.canary_once.specs.Views.{metric_view}
use Rattle.canary_once.proofs.ViewsJoined.{pairs_more, pairs_all}
use Rattle.canary_once.proofs.view_run.metrics_text.Goals as goal

pub loop-i-preserved : goal.loop-i-preserved
loop-i-preserved c =
    let m = c.index-metrics-i.result in
    let t = c.index-tallies-i.result in
    let tallies : c.as_slice-tallies.result.now ≡ c.args.run.now.tallies = c.as_slice-tallies.ensures in
    let count : c.min-count.result ≡ min (length c.args.metrics.now) (length c.as_slice-tallies.result.now) = c.min-count.ensures in
    let test = c.loop-i-test.true in
    pairs_more (metric_view c.args.run.now) c.args.metrics.now c.as_slice-tallies.result.now c.loop-i.i m t c.as_str.result.now (string_bytes c.loop-i.text) (string_bytes c.in_ok-text-2.text)
    (omega (arith, count, test)) (omega (arith, count, test)) c.index-metrics-i.is c.index-tallies-i.is (c.as_str.ensures.value ∙ c.in_ok-item.ensures) c.loop-i.invariant c.in_ok-text-2.ensures

pub returns : goal.returns
returns c =
    let tallies : c.as_slice-tallies.result.now ≡ c.args.run.now.tallies = c.as_slice-tallies.ensures in
    let count : c.min-count.result ≡ min (length c.args.metrics.now) (length c.as_slice-tallies.result.now) = c.min-count.ensures in
    let test = c.loop-i-test.false in
    let below = c.loop-i.auto.i-end in
    let end' : c.loop-i.i ≡ c.min-count.result = omega (arith, test, below) in
    let all = pairs_all (metric_view c.args.run.now) c.args.metrics.now c.as_slice-tallies.result.now c.loop-i.i (string_bytes c.loop-i.text) (end' ∙ count) c.loop-i.invariant in
    c.in_ok-push_str.ensures.bytes
    ∙ ap (λ (r : List ℕ). r ++ 93 ∷ []) all
    ∙ ap (λ (ts : List Counts). bracketed (map (metric_view c.args.run.now) (zip c.args.metrics.now ts))) tallies
