use Rattle.std.proofs.Common.{rules, ◌≡◌, ◌<◌, [], length, subst, sym}
use Rattle.obj_run.proofs.StartWords.{few_words}
use Rattle.obj_run.proofs.opening.opening.Goals as goal

pub open_words-requires : goal.open_words-requires
open_words-requires c =
    let same : c.deref.result.now ≡ c.push_values.new.words.items = search rules in
    let none : c.new-words.result.items ≡ [] = search rules in
    subst (λ xs. length xs < 2147483648) (sym same) (few_words c.args.c.now c.requires _ _ _ _ none c.in_ok-push_values.ensures)
