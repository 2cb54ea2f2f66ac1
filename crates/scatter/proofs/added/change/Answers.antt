-- `scatter::added::change` meets its contract. The loop's invariant: the first k cells have been changed.
use Rattle.std.proofs.Common.{rules, pos, refl, ◌∙◌, get_or, w32, SFits}
use Rattle.arith.specs.Signed.{back, fits_by}
use Rattle.scatter.specs.Cells.{at_of, value_of}
use Rattle.scatter.specs.Added.{Computes, changed}
use Rattle.scatter.specs.Added.Laws.{changed_next}
use Rattle.scatter.proofs.added.change.Goals as goal

pub loop-k-init : goal.loop-k-init
unfolding changed
loop-k-init g c = (search rules, λ op p. refl)

pub loop-k-preserved : goal.loop-k-preserved
unfolding Computes
loop-k-preserved g c =
    let a = c.args in
    let l = c.loop-k in
    let result : SFits w32 c.change.result = search rules in
    let cell : SFits w32 (get_or l.grid (at_of a.c l.k) (pos 0)) = search rules in
    let product : SFits w32 (value_of a.c l.k) = search rules in
    let x = back w32 cell in
    let y = back w32 product in (
      search rules,
      λ op p.
          changed_next op a.c a.grid.now l.grid l.k _ (l.invariant.1 op p)
          (back w32 result ∙ p _ _ _ (fits_by x cell) (fits_by y product) c.change.ensures ∙ (λ i. op (x i) (y i))),
    )
