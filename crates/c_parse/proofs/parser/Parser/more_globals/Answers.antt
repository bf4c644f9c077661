use Rattle.c_parse.proofs.Lists.{globals_put}
use Rattle.c_parse.proofs.parser.Parser.more_globals.Goals as goal

pub returns-then-is_next : goal.returns-then-is_next
returns-then-is_next c =
    globals_put c.args.left c.args.kind c.args.first c.args.self.now.rest.now c.advance.new.self.rest.now
    c.global_list.new.self.rest.now c.args.found.now _ c.global_list.new.found c.global_list.result (cc)
    (cc) c.in_ok-push.ensures.ok c.global_list.ensures
