-- Cases A to L hold, by computation from the definitions.
use mathlib.Core.Path.{◌≡◌, refl}
use mathlib.Core.List.{map}
use Rattle.plan.specs.Tree.{from, at, is_tree}
use Rattle.plan.specs.Table.{even, first, behind, spelled, same, same_table, sound, run}
use Rattle.plan.specs.Change.{opens, put, open_place, kept}
use Rattle.plan.specs.Paint.{painted, plan}
use Rattle.plan.specs.Records.{change, changes, known, located, runs, follows, alone, failing}
use Rattle.plan.specs.Call.{tested, result, judged, bulk}
use Rattle.plan.specs.Mapping.{fate}
use Rattle.plan.specs.Cases.{cases, computed}

pub cases_hold : map computed cases ≡ map (λ c. c.outcome) cases
unfolding from at is_tree even first behind spelled same same_table sound run opens put open_place kept painted plan change changes known located runs follows alone failing tested result judged bulk fate
cases_hold = refl
