use Rattle.std.proofs.Common.{◌+◌, [], ◌∷◌, ◌++◌, sym, ap, ◌∙◌, rules}
use Rattle.c_lex.specs.Bytes.{Bytes}
use Rattle.c_lex.specs.inside.Strings.{values_from, behind}
use Rattle.c_lex.proofs.Literals.{read_on}
use Rattle.c_lex.proofs.string.values.Goals as goal

pub loop-rest-preserved : goal.loop-rest-preserved
loop-rest-preserved c =
    let n = c.loop-rest.length + (c.in-Some.n + 1) in
    let w = c.loop-rest.name.items in
    record {
      ahead =
          ap (λ (x : Bytes). behind n x (values_from 0 c.split_at.result.1.now)) c.in_ok-push-in-Some.ensures.items
          ∙ ap (λ (x : Bytes). behind n (w ++ c.in-Some.v ∷ []) (values_from 0 x)) c.split_at.ensures.back
          ∙ sym (read_on c.loop-rest.length w c.loop-rest.rest.now c.in-Some.n c.in-Some.v c.in-len1-up.len_at_least
          c.if-b-eq34.false (sym c.character_at.ensures.value ∙ c.in-Some.is))
          ∙ c.loop-rest.invariant.ahead;
      within = search rules;
    }
