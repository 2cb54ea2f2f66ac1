-- `masks::rows::cover_line` meets its contract: three parts of the grid make a row.
use Rattle.std.specs.Prelude.{ℕ, ◌+◌, ◌-◌, List}
use Rattle.std.proofs.Common.{ap, ◌∙◌, arith, rules}
use Rattle.arith.specs.Splice.{over}
use Rattle.masks.specs.Cover.Laws.{part_length, line_made}
use Rattle.masks.proofs.rows.cover_line.Goals as goal

pub cover_row-requires : goal.cover_row-requires
cover_row-requires c =
    let g = c.args.grid.now in
    let at = c.args.at in
    let n = c.args.w + 2 in record {
      width_most = c.requires.width_most;
      cells_room = (
        part_length g at (at + n - at) n (omega arith) (omega arith),
        part_length g (at + n) (at + n + n - (at + n)) n (omega arith) (omega arith),
        part_length g (at + n + n) (at + n + n + n - (at + n + n)) n (omega arith) (omega arith),
      );
      row_room = search rules;
    }

pub returns : goal.returns
returns c =
    let a = c.args in
    let at = a.at in
    let n = a.w + 2 in
    c.cover_row.ensures
    ∙ ap (λ (t : List ℕ). over t a.row.now)
    (line_made a.levels.now.settings.cover a.levels.now.area a.w at a.grid.now (at + n - at) (at + n + n - (at + n)) (at + n + n + n - (at + n + n))
    (omega arith) (omega arith) (omega arith))
