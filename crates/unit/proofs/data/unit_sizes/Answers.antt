-- `unit::data::unit_sizes` meets its contract: refused by 2, or the sizes and sides of an accepted shape.
use Rattle.std.proofs.Common.{sym, ap, ◌∙◌}
use Rattle.arith.specs.Booleans.{cond_true, cond_false}
use Rattle.record.specs.Refusals.Laws.{outcome_refused}
use Rattle.record.specs.Shape.Laws.{number_accepted, number_yes, number_no}
use Rattle.state.specs.declared.session.Sizes.{Sizes}
use Rattle.unit.specs.declared.data.Least.{Least}
use Rattle.unit.specs.Sizes.{least_of}
use Rattle.unit.proofs.Made.{shape_zero}
use Rattle.unit.proofs.data.unit_sizes.Goals as goal

abbrev refused : Sizes → Least
refused sizes = record { number = 2; sizes = sizes; mask = 0; packed_width = 0; packed_height = 0 }

pub returns-then-is_err : goal.returns-then-is_err
unfolding least_of
returns-then-is_err c =
    ap refused c.no_sizes.ensures
    ∙ sym (cond_false _ _ _ (number_no c.args.shape (λ e. outcome_refused _ (sym c.is_err.ensures.value ∙ c.if-is_err.true) (c.check_shape.ensures ∙ e))))

pub packed_width-width-requires : goal.packed_width-width-requires
packed_width-width-requires c = number_accepted c.args.shape (shape_zero c.args.shape _ _ c.check_shape.ensures c.is_err.ensures.value c.if-is_err.false)

pub packed_height-height-requires : goal.packed_height-height-requires
packed_height-height-requires c = number_accepted c.args.shape (shape_zero c.args.shape _ _ c.check_shape.ensures c.is_err.ensures.value c.if-is_err.false)

pub sizes_for-requires : goal.sizes_for-requires
sizes_for-requires c = number_accepted c.args.shape (shape_zero c.args.shape _ _ c.check_shape.ensures c.is_err.ensures.value c.if-is_err.false)

pub plane_size-requires : goal.plane_size-requires
plane_size-requires c = number_accepted c.args.shape (shape_zero c.args.shape _ _ c.check_shape.ensures c.is_err.ensures.value c.if-is_err.false)

pub returns : goal.returns
unfolding least_of
returns c =
    (λ i.
    record {
      number = 0;
      sizes = c.sizes_for.ensures i;
      mask = c.plane_size.ensures i;
      packed_width = c.packed_width-width.ensures i;
      packed_height = c.packed_height-height.ensures i;
    })
    ∙ sym (cond_true _ _ _ (number_yes c.args.shape (shape_zero c.args.shape _ _ c.check_shape.ensures c.is_err.ensures.value c.if-is_err.false)))
