use Rattle.std.proofs.Common.{[], true, false, refl}
use Rattle.x7_listing.specs.Pens.{held_by, is_in_session, in_line_of}
use Rattle.x7_listing.proofs.RunLemmas.{by_body, by_head, by_skip, by_sync, by_word}
use Rattle.x7_listing.proofs.list.pen.put_run.Goals as goal

pub returns-in-Skip-clause-listed : goal.returns-in-Skip-clause-listed
returns-in-Skip-clause-listed c = λ given. by_skip c.args.run c.in-Skip.bytes (is_in_session c.args.pen) false (in_line_of c.args.pen) _ _ (held_by c.args.pen) _ _ given _ _ c.in-Skip.is refl c.in_gap.ensures.in_line c.in_gap.ensures.held (λ more. c.hold_all.ensures.listed more)

pub returns-in-Sync-clause-listed : goal.returns-in-Sync-clause-listed
returns-in-Sync-clause-listed c = λ given. by_sync c.args.run (is_in_session c.args.pen) true (in_line_of c.args.pen) 0 _ (held_by c.args.pen) [] given _ _ c.in-Sync.is (λ e. rw e at c.in_gap-in-Sync.ensures.in_line) refl refl c.put_sync.ensures.appends.items

pub returns-in-Head-clause-listed : goal.returns-in-Head-clause-listed
returns-in-Head-clause-listed c = λ given. by_head c.args.run (is_in_session c.args.pen) true (in_line_of c.args.pen) 0 _ (held_by c.args.pen) [] given _ _ _ _ c.in-Head.is c.open_in.ensures refl refl c.put_head.ensures.appends.items

pub returns-in-Word-clause-listed : goal.returns-in-Word-clause-listed
returns-in-Word-clause-listed c = λ given. by_word c.args.run (is_in_session c.args.pen) true (in_line_of c.args.pen) _ _ (held_by c.args.pen) [] given _ _ _ _ c.in-Word.is c.open_in-in-Word.ensures refl c.put_payload.ensures.count c.put_payload.ensures.appends.items

pub returns-in-Body-clause-listed : goal.returns-in-Body-clause-listed
returns-in-Body-clause-listed c = λ given. by_body c.args.run (is_in_session c.args.pen) true (in_line_of c.args.pen) _ _ (held_by c.args.pen) [] given _ _ _ _ c.in-Body.is c.open_in-in-Body.ensures refl c.put_body.ensures.count c.put_body.ensures.appends.items

pub returns-in-Sync-clause-none_held : goal.returns-in-Sync-clause-none_held
returns-in-Sync-clause-none_held c = λ some session. refl

pub returns-in-Head-clause-none_held : goal.returns-in-Head-clause-none_held
returns-in-Head-clause-none_held c = λ some session. refl

pub returns-in-Word-clause-none_held : goal.returns-in-Word-clause-none_held
returns-in-Word-clause-none_held c = λ some session. refl

pub returns-in-Body-clause-none_held : goal.returns-in-Body-clause-none_held
returns-in-Body-clause-none_held c = λ some session. refl
