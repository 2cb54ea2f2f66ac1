-- `scatter::geometry::Scatter::index` meets its contract: a row of cells starts far from the end of a usize.
use Rattle.std.proofs.Common.{ℕ, ◌+◌, ◌*◌, ap, arith}
use Rattle.scatter.specs.Cells.{index_of}
use Rattle.scatter.specs.Geometry.Laws.{row_start}
use Rattle.scatter.proofs.geometry.Scatter.index.Goals as goal

pub overflow_mul-result : goal.overflow_mul-result
overflow_mul-result c = omega (arith, row_start c.args.self c.requires.0 c.args.row c.requires.2)

pub overflow_add-result-2 : goal.overflow_add-result-2
overflow_add-result-2 c = omega (arith, row_start c.args.self c.requires.0 c.args.row c.requires.2)

pub overflow_add-result-3 : goal.overflow_add-result-3
overflow_add-result-3 c = omega (arith, row_start c.args.self c.requires.0 c.args.row c.requires.2)

pub returns : goal.returns
unfolding index_of
returns c = let a = c.args in ap (λ (n : ℕ). (a.row + 1) * n + a.column + 1) c.requires.0.stride
