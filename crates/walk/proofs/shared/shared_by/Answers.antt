-- `walk::shared::shared_by` meets its contract: the counts of 64 marks tell whether each is one of the three (SharedTests.antt). Assumes nothing.
use lib.Seq.{length-take-le}
use Rattle.walk.proofs.SharedTests.{shares_most}
use Rattle.walk.proofs.shared.shared_by.Goals as goal

pub are_marks-requires : goal.are_marks-requires
are_marks-requires c =
    let chunk = c.in-Some.ensures.cases in
    shares_most c.in-Some.marks.now _ (rw chunk.same (length-take-le 64 c.args.owners.now chunk.enough)) c.count_marks-shares.ensures
