use Rattle.std.proofs.Common.{◌≡◌, ◌+◌, ◌-◌, ◌∙◌, ℕ, suc, true, false, Option, Some, None, is_some, not, refl, sym, ap, arith}
use Rattle.judy_model.specs.Contents.{Entries, word_order}
use Rattle.judy_model.specs.Tenant.{cut_from, first_up_to, lack_reply, shown_reply}
use Rattle.judy_model.specs.Tenant.Lack.{NoIndex}
use Rattle.judy_model.specs.Tenant.Shown.{AnIndex}
use Rattle.judy_model.specs.declared.replies.Reply.TheVariants as reply
use Rattle.judy_words.specs.OneArrays.{one_in, index_shown}
use Rattle.judy_words.proofs.Cuts.{cut_ends, cut_goes_on, frame_on}
use Rattle.judy_words.proofs.one.Judy1.cut.Goals as goal

pub loop-count-init : goal.loop-count-init
loop-count-init c = (
  (record {
    sound = c.requires;
    frame = (c.nothing_changes.ensures false c.args.arena.now c.args.arena.now c.args.self.now _ _ refl
        (record { sound = c.requires; content = refl; blocks = refl })).0.frame;
  }),
  c.roots_have_space.ensures false c.args.arena.now.blocks c.args.self.now c.requires,
  (record { refusals = refl; region = refl; peak = refl; reserved = refl; words = omega arith }),
  (let all : c.args.most - 0 ≡ c.args.most = omega arith in
      let l = one_in c.args.arena.now.blocks c.args.self.now in
      ap (λ n. cut_from word_order (λ m. first_up_to m c.args.x c.args.last) 0 n l (first_up_to l c.args.x c.args.last)) all),
)

pub pop-requires : goal.pop-requires
pop-requires c = c.loop-count.invariant.0.sound

pub returns-then-is_none-clause-array : goal.returns-then-is_none-clause-array
returns-then-is_none-clause-array c = record {
  sound = c.pop.ensures.array.sound;
  frame = frame_on _ _ _ _ _ _ c.loop-count.invariant.0.frame c.pop.ensures.array.frame;
}

-- the search found none
none_found : (found : Option ℕ) → is_some found ≡ false → index_shown found ≡ lack_reply NoIndex
none_found None h = refl
none_found (Some e) h = cc

pub returns-then-is_none-clause-step : goal.returns-then-is_none-clause-step
returns-then-is_none-clause-step c =
    let before = one_in c.loop-count.arena.blocks c.loop-count.self in
    let after = one_in c.pop.new.arena.blocks c.pop.new.self in
    let whole = sym c.loop-count.invariant.3
    ∙ cut_ends (λ m. first_up_to m c.args.x c.args.last) (λ e. AnIndex e.0) NoIndex c.loop-count.count (c.args.most - c.loop-count.count) before after apart
    (c.pop.ensures.step ∙ ap (λ r. (r, after)) (none_found c.pop.result c.if-is_none.ensures)) in
    ap (λ p. (reply.Count p.0, p.1)) whole
  where
    apart : (e : ℕ × ℕ) → shown_reply (AnIndex e.0) ≡ lack_reply NoIndex → ⊥
    apart e h = cc

pub returns-then-is_none-clause-memory : goal.returns-then-is_none-clause-memory
returns-then-is_none-clause-memory c = c.what_calls_take_adds_up.ensures.rests c.args.arena.now c.loop-count.arena c.pop.new.arena c.loop-count.invariant.2 c.pop.ensures.memory

-- the search found one
some_found : (found : Option ℕ) → is_some found ≡ true → index_shown found ≡ lack_reply NoIndex → ⊥
some_found None h e = cc
some_found (Some e) h f = cc

pub loop-count-preserved : goal.loop-count-preserved
loop-count-preserved c =
    let before = one_in c.loop-count.arena.blocks c.loop-count.self in
    let after = one_in c.pop.new.arena.blocks c.pop.new.self in
    let more : c.args.most - c.loop-count.count ≡ suc (c.args.most - (c.loop-count.count + 1)) = omega (arith, c.loop-count-test.true) in (
      (record { sound = c.pop.ensures.array.sound; frame = frame_on _ _ _ _ _ _ c.loop-count.invariant.0.frame c.pop.ensures.array.frame }),
      c.pop.ensures.space,
      c.what_calls_take_adds_up.ensures.rests c.args.arena.now c.loop-count.arena c.pop.new.arena c.loop-count.invariant.2 c.pop.ensures.memory,
      sym (cut_goes_on (λ m. first_up_to m c.args.x c.args.last) (λ e. AnIndex e.0) NoIndex c.loop-count.count (c.args.most - (c.loop-count.count + 1))
          before after (index_shown c.pop.result) c.pop.ensures.step (some_found c.pop.result (c.is_none.ensures ∙ ap not c.if-is_none.false)))
          ∙ sym (ap (λ n. cut_from word_order (λ m. first_up_to m c.args.x c.args.last) c.loop-count.count n before (first_up_to before c.args.x c.args.last)) more)
          ∙ c.loop-count.invariant.3,
    )

pub returns-clause-array : goal.returns-clause-array
returns-clause-array c = c.loop-count.invariant.0

pub returns-clause-space : goal.returns-clause-space
returns-clause-space c = c.loop-count.invariant.1

-- all were looked for
cut_done : (search : Entries ℕ → Option (ℕ × ℕ)) (done most n : ℕ) (l : Entries ℕ) (found : Option (ℕ × ℕ)) (whole : ℕ × Entries ℕ)
    → cut_from word_order search done n l found ≡ whole → n ≡ 0 → done ≡ most → whole ≡ (most, l)
cut_done search done most n l found whole same none all =
    sym same ∙ ap (λ k. cut_from word_order search done k l found) none ∙ ap (λ k. (k, l)) all

pub returns-clause-step : goal.returns-clause-step
returns-clause-step c =
    let now = one_in c.loop-count.arena.blocks c.loop-count.self in
    let all : c.loop-count.count ≡ c.args.most = omega (arith, c.loop-count-test.false, c.loop-count.auto.count-end) in
    ap (λ p. (reply.Count p.0, p.1)) (cut_done (λ m. first_up_to m c.args.x c.args.last) c.loop-count.count c.args.most
    (c.args.most - c.loop-count.count) now (first_up_to now c.args.x c.args.last) _ c.loop-count.invariant.3 (omega (arith, all)) all)

pub returns-clause-memory : goal.returns-clause-memory
returns-clause-memory c = c.loop-count.invariant.2
