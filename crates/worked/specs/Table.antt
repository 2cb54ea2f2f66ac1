-- Paper 01, 'Proved table': K1 to K11 as one proved statement, about the definitions that the contracts cite. Each is stated and proved
-- in the crate that owns its definitions; flags play no part in the first three and K10, nor the time where no vector moves, so that they hold of any.
use Rattle.std.specs.Prelude.{ℤ}
use Rattle.record.specs.Worked.{K11, k11}
use Rattle.scatter.specs.Worked.{K2, k2, K3, k3}
use Rattle.maps.specs.Worked.{K4, k4, K5, k5, K6, k6, K7, k7, K8, k8, K9, k9}
use Rattle.masks.specs.Worked.{K1, K10, k10}
use Rattle.masks.proofs.Laws.Worked.{k1}

pub record ProvedTable : Type 0 where
  pub one : (flags time : ℤ) → K1 flags time
  pub two : (flags : ℤ) → K2 flags
  pub three : (flags : ℤ) → K3 flags
  pub four : K4
  pub five : K5
  pub six : K6
  pub seven : K7
  pub eight : K8
  pub nine : K9
  pub ten : (flags : ℤ) → K10 flags
  pub eleven : K11

pub proved_table : ProvedTable
proved_table =
    record {
      one = k1;
      two = k2;
      three = k3;
      four = k4;
      five = k5;
      six = k6;
      seven = k7;
      eight = k8;
      nine = k9;
      ten = k10;
      eleven = k11;
    }
