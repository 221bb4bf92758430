use Rattle.std.proofs.Common.{◌∙◌, refl}
use Rattle.x7_listing.specs.Pens.{held_by, is_in_session}
use Rattle.x7_listing.proofs.list.ListerOfRunsLemmas.{last_kept, takes_cut, takes_end, takes_tail}
use Rattle.x7_listing.proofs.list.lister.runs.put_next.Goals as goal

pub returns-in-Tail : goal.returns-in-Tail
returns-in-Tail c = record {
  takes = λ cutter given before bytes due next t x.
      let e = c.with_tail.ensures in
      rw c.in-Tail.is (takes_tail _ _ c.in-Tail.tail given before bytes due next refl e.in_session e.in_line e.held refl t (rw c.in-Tail.is at x));
}

pub returns-in-End : goal.returns-in-End
returns-in-End c = record {
  takes = λ cutter given before bytes due next t x.
      let e = c.new_pen.ensures in
      rw c.in-End.is (takes_end _ _ given before bytes due next refl refl e.in_line e.held (λ given before bytes sessions place m t d r k. c.put_end.ensures.listed given before sessions place (record { bytes = bytes; reading = r; mode = m; listed = t; not_sync_found = d })
      (c.tail_of.ensures ∙ last_kept (is_in_session c.args.pen) _ (held_by c.args.pen) _ before sessions place m t d k)) t (rw c.in-End.is at x));
}

pub returns-in_default : goal.returns-in_default
returns-in_default c = record {
  takes = λ cutter given before bytes due next t x.
      takes_cut _ _ c.args.run c.cut_of.result given before bytes due next c.in_default.not-Tail c.in_default.not-End refl c.cut_of.ensures (c.put_run.ensures.listed given) c.put_run.ensures.none_held t x;
}
