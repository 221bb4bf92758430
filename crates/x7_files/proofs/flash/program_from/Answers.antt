use Rattle.std.proofs.Common.{◌≡◌, ◌+◌, ◌-◌, ◌++◌, Err, append_assoc, inl, length, take, take_all, drop, ap, length-take-le, subst, sym, ◌∙◌, arith}
use Rattle.std.proofs.Math.Seq.{take-add}
use Rattle.std.proofs.lemmas.List.{take-append-drop}
use Rattle.x7_files.specs.File.{file_tells}
use Rattle.x7_files.specs.Flash.{ClearsBits, ClearsFrom}
use Rattle.x7_files.proofs.FileFlashLemmas.{clears_more, programmed_by}
use Rattle.x7_files.proofs.flash.program_from.Goals as goal

pub loop-done-preserved : goal.loop-done-preserved
loop-done-preserved g c =
    let given = c.args.given.now in
    let done = c.loop-done.done in
    let next = done + c.min-count.result in
    let reads = file_tells g.F.Seek.stream_position g.F.Read.remaining in
    let writes = file_tells g.F.Seek.stream_position g.F.Write.contents in
    let size : length (take done given) ≡ done = length-take-le done given c.loop-done.invariant.0 in
    let count : c.min-count.result ≡ next - done = omega arith in
    let both : take next given ≡ take done given ++ take (next - done) (drop done given) = take-add done c.min-count.result given ∙ ap (λ n. take done given ++ take n (drop done given)) count in
    (omega arith, clears_more reads writes c.args.place _ (take done given) (take (next - done) (drop done given)) (take next given) c.args.file.now c.loop-done.file c.clear_piece.new.file c.loop-done.invariant.1 (omega (arith, size)) c.in-Ok.ensures both)

pub returns-in-Err : goal.returns-in-Err
returns-in-Err g c =
    let given = c.args.given.now in
    let done = c.loop-done.done in
    let next = done + c.min-count.result in
    let reads = file_tells g.F.Seek.stream_position g.F.Read.remaining in
    let writes = file_tells g.F.Seek.stream_position g.F.Write.contents in
    let piece = take (next - done) (drop done given) in
    let place : c.args.place + done ≡ c.args.place + length (take done given) = omega (arith, length-take-le done given c.loop-done.invariant.0) in
    inl (record {
      prefix = take done given;
      piece = piece;
      after = drop (next - done) (drop done given);
      are = sym (take-append-drop done given) ∙ ap (λ rest. take done given ++ rest) (sym (take-append-drop (next - done) (drop done given)))
          ∙ sym (append_assoc (take done given) piece (drop (next - done) (drop done given)));
      between = c.loop-done.file;
      cleared = c.loop-done.invariant.1;
      stops = subst (λ at. ClearsFrom reads writes at piece (Err (record {})) c.loop-done.file c.clear_piece.new.file) place c.in-Err.ensures;
    })

pub returns : goal.returns
returns g c =
    let given = c.args.given.now in
    let reads = file_tells g.F.Seek.stream_position g.F.Read.remaining in
    let writes = file_tells g.F.Seek.stream_position g.F.Write.contents in
    let all = take_all c.loop-done.done given (omega arith) in
    programmed_by reads writes c.args.place given c.args.file.now c.loop-done.file c.keep.new.file c.keep.result
    (subst (λ bytes. ClearsBits reads writes c.args.place bytes c.args.file.now c.loop-done.file) all c.loop-done.invariant.1) c.keep.ensures
