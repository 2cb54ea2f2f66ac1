-- What is made afresh over what was made afresh before: the first changes nothing of the result.
use Rattle.std.specs.Prelude.{◌≡◌, ℕ, List}
use Rattle.arith.specs.Filling.{fill_again}
use Rattle.record.specs.declared.shape.FieldShape.{FieldShape}
use Rattle.record.specs.Shape.{blocks_of, plane_size}
use Rattle.maps.specs.declared.map.SceneLimits.{SceneLimits}
use Rattle.maps.specs.Luma.{averages_of, averages_made}
use Rattle.maps.specs.Map.{map_of, map_made}
use Rattle.maps.specs.Planes.{Planes, planes, planes_made, x_at, y_at, x_plane, y_plane}

pub averages_again : (s : FieldShape) (table B F B' F' l : List ℕ) → averages_made s table B' F' (averages_made s table B F l) ≡ averages_made s table B' F' l
unfolding averages_made averages_of
averages_again s table B F B' F' l = fill_again _ _ (blocks_of s) l

pub map_again : (s : FieldShape) (l l' : SceneLimits) (X A X' A' m : List ℕ) → map_made s l' X' A' (map_made s l X A m) ≡ map_made s l' X' A' m
unfolding map_made map_of
map_again s l l' X A X' A' m = fill_again _ _ (blocks_of s) m

pub planes_again : (s : FieldShape) (X X' : List ℕ) (p : Planes) → planes_made s X' (planes_made s X p) ≡ planes_made s X' p
unfolding planes_made x_plane y_plane
planes_again s X X' p =
    λ i. planes (fill_again (x_at s X') (x_at s X) (plane_size s) p.xs i) (fill_again (y_at s X') (y_at s X) (plane_size s) p.ys i)
