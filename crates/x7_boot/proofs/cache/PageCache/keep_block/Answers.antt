use Rattle.std.proofs.Common.{◌+◌, ◌-◌, ◌∙◌, ℕ, Vec, arith, refl, subst, sym}
use Rattle.std.specs.declared.alloc.Global.{Global}
use Rattle.x7_boot.specs.Pages.{IsBlock}
use Rattle.x7_boot.proofs.BlockLemmas.{absent_before, takes_more, takes_none, takes_same}
use Rattle.x7_boot.proofs.cache.PageCache.keep_block.Goals as goal

pub pages-init : goal.pages-init
pages-init c = record {
  most = omega arith;
  same = refl;
  kept = λ flash block are. are;
  there = λ less. absurd (omega (arith, less));
  taken = takes_none (c.args.number + c.args.count) (c.args.count - c.args.count) c.args.self.now.pages (omega arith) c.requires.fits;
}

pub keep_page-requires-clause-absent : goal.keep_page-requires-clause-absent
keep_page-requires-clause-absent c =
    let i = c.pages.invariant in
    absent_before (c.args.number + c.pages.left) (c.args.count - c.pages.left) (c.args.number + (c.pages.left - 1)) c.args.self.now.pages c.pages.self.pages (omega (arith, c.pages-test.true)) i.taken
    (c.requires.absent (c.args.number + (c.pages.left - 1)) (omega arith) (let m = i.most in omega (arith, m, c.pages-test.true)))

pub keep_page-requires-clause-room : goal.keep_page-requires-clause-room
keep_page-requires-clause-room c = omega (arith, c.pages.invariant.taken.room, c.requires.room)

pub returns-clause-taken : goal.returns-clause-taken
returns-clause-taken c =
    takes_same (c.args.number + c.pages.left) c.args.number (c.args.count - c.pages.left) c.args.count c.args.self.now.pages c.pages.self.pages (omega (arith, c.pages-test.false)) (omega (arith, c.pages-test.false)) c.pages.invariant.taken

pub pages-preserved : goal.pages-preserved
pages-preserved c =
    let i = c.pages.invariant in
    record {
      most = let m = i.most in omega (arith, m);
      same = c.keep_page.ensures.block ∙ i.same;
      kept = λ flash block are.
          c.keep_page.ensures.pages c.args.count (let m = i.most in omega (arith, m, c.pages-test.true)) flash
          (subst (λ (v : Vec ℕ Global). IsBlock flash c.args.number c.args.count v.items) (sym i.same) block) (i.kept flash block are);
      there = λ _. c.in_ok-keep_page.ensures.there;
      taken = let m = i.most in takes_more (c.args.number + (c.pages.left - 1)) (c.args.number + c.pages.left) (c.args.count - c.pages.left) (c.args.count - (c.pages.left - 1)) c.args.self.now.pages c.pages.self.pages c.keep_page.new.self.pages
          (omega (arith, c.pages-test.true)) (omega (arith, m, c.pages-test.true)) i.taken c.in_ok-keep_page.ensures.taken;
    }

pub returns-in_err-keep_page-clause-pages : goal.returns-in_err-keep_page-clause-pages
returns-in_err-keep_page-clause-pages c = λ flash block are.
    let i = c.pages.invariant in
    c.keep_page.ensures.pages c.args.count (let m = i.most in omega (arith, m, c.pages-test.true)) flash
    (subst (λ (v : Vec ℕ Global). IsBlock flash c.args.number c.args.count v.items) (sym i.same) block) (i.kept flash block are)
