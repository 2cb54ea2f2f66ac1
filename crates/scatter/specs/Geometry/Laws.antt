-- Laws of a time and of what a scatter works out once: each number fits its type, and code reads it back.
use Rattle.std.specs.Prelude.{◌≡◌, refl, true, ℕ, ◌+◌, ◌*◌, ◌≤◌, ◌<◌, ℤ, pos, negsuc, nat_abs, ◌*ℤ◌}
use Rattle.std.proofs.Common.{sym, ap, ◌∙◌, subst, lt_of_le_of_lt, arith, lit<, SFits, to_z, of_z}
use Rattle.std.proofs.Math.Nat.{mul-le-mul_right}
use mir.Syntax.{w32}
use Rattle.arith.specs.Integers.{up, in_range, range_true, le_z!, abs_le}
use Rattle.arith.specs.Signed.{fits_by, back, read, abs_sfits}
use Rattle.record.specs.declared.shape.FieldShape.{FieldShape}
use Rattle.record.specs.Numbers.{unless}
use Rattle.record.specs.Numbers.Laws.{unless_good, unless_zero}
use Rattle.record.specs.Shape.{step_x_of, step_y_of, height_of, stride_of, trash_of}
use Rattle.record.specs.Shape.Laws.{Accepted, ShapeBounds, shape_bounds, trash_most, step_small}
use Rattle.scatter.specs.declared.geometry.Scatter.{Scatter}
use Rattle.scatter.specs.Geometry.{time_accepted, time_number, Timed, geometry_of, Geometry, ScatterRoom, RowRoom}

-- the rule of times as a range: the machine states one of its own, and the two are compared
pub time_range : (t : ℤ) → time_accepted t ≡ in_range (negsuc 65534) (pos 65535) t
unfolding time_accepted
time_range t = refl

-- an accepted time is one
pub timed : (t : ℤ) → time_accepted t ≡ true → Timed t
unfolding time_accepted
timed t e =
    let r = range_true (negsuc 65534) (pos 65535) t e in
    record { least = le_z! r.0; most = le_z! r.1 }

-- the number of a time: 7 unless it is accepted
pub time_number_lem : (t : ℤ) → time_number t ≡ unless (time_accepted t) 7
unfolding time_number
time_number_lem t = refl

-- where no number arises, the time is accepted
pub number_time : (t : ℤ) → time_number t ≡ 0 → time_accepted t ≡ true
number_time t e = unless_zero (time_accepted t) 7 (λ q. omega arith) (sym (time_number_lem t) ∙ e)

-- and where it is, none arises
pub accepted_time : (t : ℤ) → time_accepted t ≡ true → time_number t ≡ 0
accepted_time t e = time_number_lem t ∙ unless_good (time_accepted t) 7 e

pub number_timed : (t : ℤ) → time_number t ≡ 0 → Timed t
number_timed t e = timed t (number_time t e)

module _ {T : ℤ} (t : Timed T) where
  pub time_most : nat_abs T ≤ 65535
  time_most = abs_le 65534 T t.least t.most

  time_fits : SFits w32 T
  time_fits = abs_sfits w32 T (lt_of_le_of_lt time_most (lit< tt))

  -- as code reads it
  pub time_back : to_z w32 (of_z w32 T) ≡ T
  time_back = back w32 time_fits

  pub timed_read : Timed (to_z w32 (of_z w32 T))
  timed_read = subst Timed (sym time_back) t

  -- and what is worked out of it then
  pub geometry_back : (s : FieldShape) (g : Scatter) → g ≡ geometry_of s (to_z w32 (of_z w32 T)) → g ≡ geometry_of s T
  geometry_back s g e = e ∙ ap (geometry_of s) time_back

-- the divisor, as a natural
module _ {s : FieldShape} (a : Accepted s) where
  pub denom_is : pos 256 *ℤ s.pel ≡ pos (256 * up s.pel)
  denom_is = ap (λ (z : ℤ). pos 256 *ℤ z) a.pel_range.is

  pub denom_fits : SFits w32 (pos 256 *ℤ s.pel)
  denom_fits = fits_by denom_is (record { sfits = omega (arith, a.pel_range.most) })

-- what is worked out of an accepted shape and a time is theirs
geometry_of_lem : (s : FieldShape) (time : ℤ) → Accepted s → Timed time → Geometry (geometry_of s time)
unfolding geometry_of
geometry_of_lem s time a t =
    record {
      accepted = a;
      timed = t;
      denom = refl;
      step_x = refl;
      step_y = refl;
      width = refl;
      height = refl;
      stride = refl;
      trash = refl;
    }

-- and so is what code works out, which reads the time back
pub geometry_made : {T : ℤ} (t : Timed T) (s : FieldShape) (g : Scatter) → Accepted s → g ≡ geometry_of s (to_z w32 (of_z w32 T)) → Geometry g
geometry_made t s g a e = subst Geometry (sym (geometry_back t s g e)) (geometry_of_lem s _ a t)

-- so one row of its blocks has room where the whole has
pub row_room : (s : FieldShape) (time : ℤ) (g : Scatter) (row set grid : ℕ) → g ≡ geometry_of s time → ScatterRoom s time set grid → row < up s.grid_h
    → RowRoom g row set grid
unfolding geometry_of
row_room s time g row set grid e r h =
    subst (λ (x : Scatter). RowRoom x row set grid) (sym e)
    (record { geometry = geometry_of_lem s time r.accepted r.timed; row_below = h; set_room = r.set_room; grid_room = r.grid_room })

-- ---- one axis

module _ (g : Scatter) (y : Geometry g) where
  -- the steps as code reads them
  pub step_x_is : to_z w32 (of_z w32 g.step_x) ≡ pos (step_x_of g.shape)
  unfolding step_x_of
  step_x_is = read w32 y.step_x (step_small y.accepted.x)

  pub step_y_is : to_z w32 (of_z w32 g.step_y) ≡ pos (step_y_of g.shape)
  unfolding step_y_of
  step_y_is = read w32 y.step_y (step_small y.accepted.y)

  -- ---- a row of cells

  pub sizes : ShapeBounds g.shape
  sizes = shape_bounds g.shape y.accepted

  -- where it starts is far from the end of a usize
  pub row_start : (row : ℕ) → row < g.height → (row + 1) * g.stride ≤ 1054729
  unfolding trash_of
  row_start row h =
      let e = y.height in
      let m : (row + 1) * stride_of g.shape ≤ (height_of g.shape + 2) * stride_of g.shape = mul-le-mul_right (stride_of g.shape) (omega arith) in
      rw y.stride (omega (arith, trash_most g.shape y.accepted))
