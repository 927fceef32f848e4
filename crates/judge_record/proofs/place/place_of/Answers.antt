-- `judge_record::place::place_of` meets its contract.
use Rattle.judge_record.proofs.Places.{row_ends}
use Rattle.judge_record.proofs.place.place_of.Goals as goal

pub end_of-requires : goal.end_of-requires
end_of-requires c = row_ends c.args.dist.now c.args.size.now c.args.r c.requires
