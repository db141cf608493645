use Rattle.hotel_nights.proofs.BlockLemmas.{zeros}
use Rattle.hotel_nights.proofs.block.count_stays.Goals as goal

pub loop-stay-init : goal.loop-stay-init
loop-stay-init c = record { begins = λ j. zeros j; ends = λ j. zeros j }
