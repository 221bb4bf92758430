use Rattle.std.proofs.Common.{length, arith}
use Rattle.x7_files.proofs.FileInputsLemmas.{opened_asks, opened_ok, opened_quiet, opened_refused, opened_err, opened_stays, failed_read, read_asks, read_end, read_ok, read_no_end, read_quiet, read_stays, within_buffer}
use Rattle.x7_files.specs.Inputs.{opening_of}
use Rattle.x7_files.proofs.inputs.FileInputsInputs.TheImpl.Goals as goal

pub select-tells : goal.select-tells
select-tells g c =
    let old = c.args.self.now in
    let new = c.new.self.now in
    let map = g.W.World.contents in
    let name = c.args.name.now in
    record {
      opened = opened_ok map old new (opening_of new) name c.result c.ensures.after;
      refused = opened_refused map old new (opening_of new) name c.result c.ensures.after;
      not_selected = opened_err map old new name (opening_of new) c.result c.ensures.after;
      no_fault = opened_quiet map old new name (opening_of new) c.result c.ensures.after;
      asks = opened_asks map old new (opening_of new) name c.result c.ensures.after;
      at_most_one_more = record { selects = c.ensures.at_most_one_more; ends = omega (arith, c.ensures.ends) };
      stays = opened_stays map old new name (opening_of new) c.result c.ensures.after c.ensures.counts;
      fits = (c.ensures.counts.faults.fits, c.ensures.counts.absences.fits);
    }

pub read-tells : goal.read-tells
read-tells g c =
    let old = c.args.self.now in
    let new = c.new.self.now in
    let map = g.W.World.contents in
    let buf = c.new.buf.now in
    record {
      read = read_ok map old new buf c.result c.requires (within_buffer c.result (length c.args.buf.now) (length c.new.buf.now) c.ensures.length c.ensures.within) c.ensures.counted;
      within = c.ensures.within;
      end = read_end map old new buf (length c.args.buf.now) c.result c.ensures.length c.ensures.counted;
      length = c.ensures.length;
      no_end = read_no_end map old new buf c.result c.ensures.counted;
      failed = failed_read map old new c.result c.ensures.failed;
      no_fault = read_quiet map old new buf c.result c.ensures.counted;
      asks = read_asks map old new buf c.result c.ensures.counted c.ensures.failed c.ensures.at_most_one_more;
      stays = read_stays map old new buf c.result c.ensures.counted c.ensures.failed c.ensures.counts;
      fits = (c.ensures.counts.faults.fits, c.ensures.counts.absences.fits);
    }
