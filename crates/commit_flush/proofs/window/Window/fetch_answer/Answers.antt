use Rattle.std.proofs.Common.{ap, sym, ◌∙◌, true, false, refl, not, ◌==◌, ◌-◌, ◌^◌}
use Rattle.commit_flush_spec.specs.Older.{follows}
use Rattle.commit_flush.proofs.NumberTests.{is_equal, apart}
use Rattle.commit_flush.proofs.FetchAsked.{fetch_is, block_past, block_there}
use Rattle.commit_flush.proofs.window.Window.fetch_answer.Goals as goal

pub returns-then-block-count : goal.returns-then-block-count
returns-then-block-count c =
    let v = c.args.self.now in
    fetch_is v.image.blocks c.args.block v.window c.args.number true _ _ _ c.requires.lowest
    (block_past c.image.result.now v.image c.count.result c.args.block c.image.ensures.value c.count.ensures.value
    c.if-block-count.true) refl refl refl

pub returns-then-generation : goal.returns-then-generation
returns-then-generation c =
    let v = c.args.self.now in
    fetch_is v.image.blocks c.args.block v.window c.args.number false true _ _ c.requires.lowest
    (block_there c.image.result.now v.image c.count.result c.args.block c.image.ensures.value c.count.ensures.value
    c.if-block-count.false)
    (is_equal _ _ (sym c.generation.ensures.value ∙ c.if-generation.true)) refl refl

pub returns-then-is_serial : goal.returns-then-is_serial
returns-then-is_serial c =
    let v = c.args.self.now in
    fetch_is v.image.blocks c.args.block v.window c.args.number false false true _ c.requires.lowest
    (block_there c.image.result.now v.image c.count.result c.args.block c.image.ensures.value c.count.ensures.value
    c.if-block-count.false)
    (ap (λ g. g == 2 ^ 64 - 1) (sym c.generation.ensures.value) ∙ apart _ _ c.if-generation.false)
    (sym c.is_serial.ensures ∙ c.if-is_serial.true) refl

pub returns-then-follows : goal.returns-then-follows
returns-then-follows c =
    let v = c.args.self.now in
    fetch_is v.image.blocks c.args.block v.window c.args.number false false false false c.requires.lowest
    (block_there c.image.result.now v.image c.count.result c.args.block c.image.ensures.value c.count.ensures.value
    c.if-block-count.false)
    (ap (λ g. g == 2 ^ 64 - 1) (sym c.generation.ensures.value) ∙ apart _ _ c.if-generation.false)
    (sym c.is_serial.ensures ∙ c.if-is_serial.false)
    (ap not (ap (λ x. follows x c.args.block) (sym c.successor.ensures.value) ∙ sym c.follows.ensures.value
    ∙ c.if-follows.true))

pub returns-else-follows : goal.returns-else-follows
returns-else-follows c =
    let v = c.args.self.now in
    fetch_is v.image.blocks c.args.block v.window c.args.number false false false true c.requires.lowest
    (block_there c.image.result.now v.image c.count.result c.args.block c.image.ensures.value c.count.ensures.value
    c.if-block-count.false)
    (ap (λ g. g == 2 ^ 64 - 1) (sym c.generation.ensures.value) ∙ apart _ _ c.if-generation.false)
    (sym c.is_serial.ensures ∙ c.if-is_serial.false)
    (ap not (ap (λ x. follows x c.args.block) (sym c.successor.ensures.value) ∙ sym c.follows.ensures.value
    ∙ c.if-follows.false))
