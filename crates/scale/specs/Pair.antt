-- The pair of two scales: part by part; the first decides the order, the second where the firsts are equal.
--
--   pair           the pair of any two scales
--   activation     satisfaction, then volume, then money
--   netting        satisfaction alone
use Rattle.std.specs.Prelude.{◌+◌, min, not, ◌&&◌, ◌||◌, ◌++◌, take, drop}
use Rattle.scale.specs.Meaning.{Meaning}
use Rattle.scale.specs.Single.{satisfaction, volume, money}

abbrev pub pair : Meaning → Meaning → Meaning
pair a b = record {
  Value = a.Value × b.Value;
  zero = (a.zero, b.zero);
  plus = λ x y. (a.plus x.0 y.0, b.plus x.1 y.1);
  opposite = λ x. (a.opposite x.0, b.opposite x.1);
  less = λ x y. a.less x.0 y.0 || (not (a.less y.0 x.0) && b.less x.1 y.1);
  satisfied = (a.satisfied, b.satisfied);
  up = λ price. (a.up price, b.up price);
  down = λ price. (a.down price, b.down price);
  in_range = λ v. a.in_range v.0 && b.in_range v.1;
  levels = min 17 (a.levels + b.levels);
  bids = a.bids || b.bids;
  written = λ v. a.written v.0 ++ b.written v.1;
  value = λ ns. (a.value (take a.levels ns), b.value (drop a.levels ns));
}

abbrev pub netting : Meaning
netting = satisfaction

abbrev pub activation : Meaning
activation = pair satisfaction (pair volume money)
