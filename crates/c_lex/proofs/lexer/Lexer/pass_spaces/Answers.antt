use Rattle.std.proofs.Common.{Bool, ◌≡◌, ◌≤◌, ◌+◌, min, length, vec_capacity, refl, ap, arith}
use Rattle.c_lex.specs.inside.Places.{place}
use Rattle.c_lex.specs.inside.Spaces.{after_spaces}
use Rattle.c_lex.proofs.Spaces.{passed}
use Rattle.c_lex.proofs.WhiteSpace.{behind_few}
use Rattle.c_lex.proofs.lexer.Lexer.pass_spaces.Goals as goal

pub returns-clause-moved : goal.returns-clause-moved
returns-clause-moved c =
    passed 8192 (place c.args.self.now) _ c.requires.begins c.requires.within c.after_spaces-offset.ensures.offset
    (ap (λ (v : Bool). record { starts = v; directs = c.args.self.now.directs }) c.after_spaces-offset.ensures.starts)
    c.after_spaces-offset.ensures.rest refl

pub returns-clause-room : goal.returns-clause-room
returns-clause-room c =
    let text = c.args.self.now.rest.now in
    let few : length (after_spaces text) ≤ length text = behind_few text in
    let rest : length c.after_spaces-offset.result.2.now ≡ length (after_spaces text) =
    ap length c.after_spaces-offset.ensures.rest in
    let room : min (length c.args.self.now.tokens.items + length text) 8192
    ≤ vec_capacity c.args.self.now.tokens = c.requires.room in
    omega arith
