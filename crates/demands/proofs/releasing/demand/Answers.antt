use Rattle.std.proofs.Common.{◌≡◌, true, ◌≤◌, ◌<◌, arith}
use Rattle.table.specs.Releases.{released_at}
use Rattle.demands.specs.Walks.{first_release, next_release}
use Rattle.demands.proofs.Releases.{Follows, next_follows, first_released}
use Rattle.demands.proofs.Openings.{Walk, walk_first, walk_close, walk_next, demand_none, demand_last}
use Rattle.demands.proofs.releasing.demand.Goals.{Joined-end-release, then-end-release, else-end-release}
use Rattle.demands.proofs.releasing.demand.Goals as goal

pub returns-then-span-start : goal.returns-then-span-start
returns-then-span-start c = let p = c.requires in demand_none _ _ _ p.0 p.1 p.2 (rw c.first_release-start.ensures at c.if-span-start.true)

pub loop-release-init : goal.loop-release-init
loop-release-init c =
    let p = c.requires in
    let i = c.first_release-start.ensures in
    let release = c.args.task.release in
    let h : first_release release < c.args.span = omega (arith, i, c.if-span-start.false) in
    rw (c.next_release-release.ensures, i) (record {
      walked = walk_first _ _ _ p.0 p.1 p.2 h;
      rises = omega (arith, p.0.some);
      released = λ l. (next_follows release (first_release release) p.0.release (omega (arith, p.1, h)) (first_released release)).again (omega (arith, p.1));
    })

pub loop-release-preserved : goal.loop-release-preserved
loop-release-preserved c =
    let p = c.requires in
    let inv = c.loop-release.invariant in
    let release = c.args.task.release in
    let r = c.loop-release.release in
    let at : released_at release r ≡ true = inv.released c.loop-release-test.true in
    let f : Follows release r (next_release release r) = next_follows release r p.0.release (omega (arith, p.1, c.loop-release-test.true)) at in
    let k : Walk release c.args.task.work c.args.span c.args.out.now c.if-end-release.out c.if-end-release.start c.if-end-release.end c.if-end-release.count r × (r ≤ c.if-end-release.end) =
    elim c.if-end-release.branch [
      | then-end-release w ↦ rw (w.out-is, w.start-is, w.end-is, w.count-is) (walk_close inv.walked w.if-end-release.true c.loop-release-test.true w.put-count.ensures, omega arith)
      | else-end-release w ↦ rw (w.out-is, w.start-is, w.end-is, w.count-is) (inv.walked, w.if-end-release.false)
    ] in
    rw c.next_release-release-in-loop-release.ensures (record {
      walked = walk_next k.0 p.0.most k.1 at f;
      rises = omega (arith, k.0.within, k.1, p.0.some);
      released = λ l. f.again (omega (arith, p.1));
    })

pub returns : goal.returns
returns c =
    let p = c.requires in
    demand_last _ _ _ p.0 p.1 p.2 c.loop-release.invariant.walked c.loop-release-test.false (rw c.min.ensures at c.put.ensures)
