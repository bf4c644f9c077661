use Rattle.std.proofs.Common.{◌≡◌, ◌≤◌, ◌<◌, ◌+◌, min, Bool, false, [], ◌∷◌, ◌++◌, length, vec_capacity, ap, ◌∙◌}
use Rattle.std.proofs.Common.{arith, length-append}
use Rattle.c_tree.specs.declared.Form.TheVariants as form
use Rattle.c_lex.specs.Bytes.{Bytes}
use Rattle.c_lex.specs.Lexes.{Tokens}
use Rattle.c_lex.specs.inside.Places.{place}
use Rattle.c_lex.specs.inside.Spaces.{after_spaces}
use Rattle.c_lex.proofs.Spaces.{ended, end_stops, not_full}
use Rattle.c_lex.proofs.WhiteSpace.{behind_fewer}
use Rattle.c_lex.proofs.lexer.Lexer.line_end.Goals as goal

pub returns-then-is_full-clause-turned : goal.returns-then-is_full-clause-turned
returns-then-is_full-clause-turned c =
    end_stops 8192 (place c.args.self.now) c.requires.begins c.requires.ends
    (c.is_full.ensures.0 c.if-is_full.true) c.requires.few

pub returns-clause-turned : goal.returns-clause-turned
returns-clause-turned c =
    let old : Tokens = c.args.self.now.tokens.items in
    let name : Bytes → Tokens = λ w. old ++ record { offset = c.args.self.now.offset; form = form.Name w } ∷ [] in
    ended 8192 (place c.args.self.now) _ c.requires.begins c.requires.ends c.after_spaces-offset.ensures.offset
    (ap (λ (v : Bool). record { starts = v; directs = false }) c.after_spaces-offset.ensures.starts)
    c.after_spaces-offset.ensures.rest (
      c.push_reserved.ensures.items ∙ ap name c.in_ok-name.ensures.ok,
      not_full _ (length old) c.is_full.ensures.1 c.if-is_full.false,
    )

pub returns-clause-room : goal.returns-clause-room
returns-clause-room c =
    let text : Bytes = c.args.self.now.rest.now in
    let old : Tokens = c.args.self.now.tokens.items in
    let fewer : length (after_spaces text) < length text = behind_fewer text c.requires.begins in
    let rest : length c.after_spaces-offset.result.2.now ≡ length (after_spaces text) =
    ap length c.after_spaces-offset.ensures.rest in
    let one = ap length c.push_reserved.ensures.items ∙ length-append old _ in
    let same = c.push_reserved.ensures.capacity in
    let room : min (length old + length text) 8192 ≤ vec_capacity c.args.self.now.tokens = c.requires.room in
    omega (arith, one, same)
