-- `maps::luma::avg_luma` meets its contract: refused by its number, or the averages of both sets.
use Rattle.std.proofs.Common.{ℕ, refl, sym, ap, ◌∙◌}
use Rattle.record.specs.Numbers.Laws.{call_refused, call_accepted}
use Rattle.record.specs.Refusals.Laws.{code_positive, handed_on}
use Rattle.maps.specs.Luma.Laws.{luma_ready}
use Rattle.maps.specs.Luma.{averaged, luma_of}
use Rattle.maps.proofs.luma.avg_luma.Goals as goal

pub returns-in_err-check_luma : goal.returns-in_err-check_luma
unfolding luma_of
returns-in_err-check_luma c =
    let a = c.args in
    let r = c.in_err-check_luma.field-0.0 in
    let n = handed_on _ r c.from_residual.ensures.1 in
    call_refused (λ (k : ℕ). averaged k a.backward.now a.forward.now a.table.now a.averages.now) _ _ _ (n ∙ c.in_err-check_luma.ensures)
    (λ q. code_positive r (sym n ∙ q))

pub fill_averages-requires : goal.fill_averages-requires
fill_averages-requires c = luma_ready _ _ _ _ _ (sym c.in_ok-check_luma.ensures)

pub returns : goal.returns
unfolding luma_of
returns c =
    let a = c.args in
    ap (averaged 0 a.backward.now a.forward.now a.table.now) c.fill_averages.ensures
    ∙ call_accepted (λ (k : ℕ). averaged k a.backward.now a.forward.now a.table.now a.averages.now) _ _ _ c.in_ok-check_luma.ensures refl
