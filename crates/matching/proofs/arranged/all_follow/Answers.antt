-- Each record may stand after the one before it, by the test that is made of the two.
use Rattle.std.proofs.Common.{rules}
use Rattle.std.proofs.lemmas.Fn.{always_returns_same}
use Rattle.matching.proofs.Orders.{follow_answer, follows_test, may_follow}
use Rattle.matching.proofs.arranged.all_follow.Goals as goal

pub returns : goal.returns
returns c = follow_answer c.args.windows.now c.is_sorted_by.result (c.is_sorted_by.ensures.cases may_follow (always_returns_same _ _ _ (λ a r f k. search (rules, follows_test))))
