-- Clients that are heard in a round, and those that are not.
--     heard_lines, heard_read   moments by which a client was heard
--     unheard                   nothing happened to a client that was not
--     tells_more                what the second half of a turn leaves of a client that was passed over
use Rattle.std.proofs.Common.{◌≡◌, ◌⊎◌, inl, inr, ◌<◌, ℕ, Bool, true, false, List, [], ◌∷◌, ◌++◌, Some, arith, sym, ◌∙◌, ap, subst, refl, append-nil}
use Rattle.judy_many.specs.declared.queue.Left.{Left}
use Rattle.judy_many.specs.declared.queue.Left.TheVariants as left
use Rattle.judy_many.specs.Fates.{Stays}
use Rattle.judy_many.specs.Lives.{Lives, View}
use Rattle.judy_many.specs.Nets.{Act}
use Rattle.judy_many.specs.Nets.Act.{Broke, Dry, Ended, Read}
use Rattle.judy_many.specs.Queues.{is_more}
use Rattle.judy_many.specs.Sessions.{Turn}
use Rattle.judy_many.specs.Shares.{AreHeard, IsCounted, IsHeardIf, MayListen, SlotCounts, count_in, group_of, passed_over}
use Rattle.judy_many.specs.Stories.{Share, Story, told}
use Rattle.judy_many.specs.Stories.Moment.{Ran}
use Rattle.judy_many.specs.Watches.{IsKept, LeftTells, Listens, Skips, TellsMore}
use Rattle.judy_many.proofs.Looking.{listens_not}
use Rattle.judy_many.proofs.Telling.{stays_none}
use Rattle.judy_many.proofs.Turning.{times-append}

-- ---- who is heard

heard_after : (a b : Story) → AreHeard b → AreHeard (a ++ b)
heard_after a b h = let e = times-append Share.Reading a b in let f = times-append Share.Running a b in omega (arith, e, f, h)

-- lines were run
pub heard_lines : (a b : Story) (n : ℕ) (turns : List Turn) → AreHeard (a ++ (b ++ Ran n turns ∷ []))
heard_lines a b n turns = heard_after a (b ++ Ran n turns ∷ []) (heard_after b (Ran n turns ∷ []) (omega arith))

-- and what comes after is no matter
pub heard_before : (a b : Story) → AreHeard a → AreHeard (a ++ b)
heard_before a b h = let e = times-append Share.Reading a b in let f = times-append Share.Running a b in omega (arith, e, f, h)

-- a connection was read
pub heard_read : (acts : List Act) (more : Bool) → TellsMore acts more → AreHeard (told acts)
heard_read (Read m bytes ∷ []) more tells = omega arith
heard_read (Dry m ∷ []) more tells = omega arith
heard_read (Ended m ∷ []) more tells = omega arith
heard_read (Broke m ∷ []) more tells = omega arith
heard_read acts more tells = absurd tells

-- a client that is not ready is not heard
pub heard_not : (v : View) → (v.pending ≡ [] → ⊥) ⊎ (v.quits ≡ true) → IsHeardIf v []
heard_not v (inl some) written unasked = absurd (some written)
heard_not v (inr quits) written unasked = absurd (apart (sym unasked ∙ quits))
  where
    apart : false ≡ true → ⊥
    apart e = cc

-- nothing happened to a client that is not heard in this round
pub record IsUnheard (share : ℕ) (v v' : View) (counts counts' : List ℕ) : Type 0 where
  pub number : v'.number ≡ v.number
  pub stays : Stays v v' []
  pub listens : Listens v v' [] ⊎ Skips share counts v v' []
  pub counted : SlotCounts share counts counts' (Some v) []

pub unheard : (share : ℕ) (v v' : View) (counts counts' : List ℕ) → MayListen false share v v' counts counts' → IsUnheard share v v' counts counts'
unheard share v v' counts counts' (same, inl (is, why)) = record {
  number = ap (λ w. w.number) is;
  stays = subst (λ w. Stays v w []) (sym is) (stays_none v);
  listens = inl (subst (λ w. Listens v w []) (sym is) (listens_not v why));
  counted = inl (same, refl);
}
unheard share v v' counts counts' (same, inr (is, full)) = record {
  number = ap (λ w. w.number) is;
  stays = subst (λ w. Stays v w []) (sym is) (stays_passed v);
  listens = inr (full, ap (λ w. w.number) is, subst (λ w. IsKept v → IsKept w) (sym is) (λ kept. record { more = λ some. refl; whole = kept.whole }), ap (λ w. w.more) is, refl);
  counted = inl (same, refl);
}
  where
    stays_passed : (v : View) → Stays v (passed_over v) []
    stays_passed v story lives = subst (λ t. Lives t (passed_over v)) (sym (append-nil story)) (record {
      live = record {
        heard = lives.live.heard;
        read = lives.live.read;
        ran = lives.live.ran;
        holds = lives.live.holds;
        speaks = lives.live.speaks;
        text = lives.live.text;
        last = lives.live.last;
        asked = lives.live.asked;
        stays = lives.live.stays;
      };
      order = lives.order;
      ready = lives.ready;
      came = lives.came;
      unclosed = lives.unclosed;
      unended = lives.unended;
      unfailed = lives.unfailed;
    })

pub unheard_by : (share : ℕ) (may : Bool) (v v' : View) (counts counts' : List ℕ) → may ≡ false → MayListen may share v v' counts counts' → IsUnheard share v v' counts counts'
unheard_by share may v v' counts counts' e h = unheard share v v' counts counts' (subst (λ b. MayListen b share v v' counts counts') e h)

-- a client that is heard in this round was counted
pub heard_by : (share : ℕ) (may : Bool) (v u w : View) (counts counts' : List ℕ) (more : Story) → may ≡ true → MayListen may share v u counts counts' → w ≡ u → IsHeardIf w more → (w ≡ v) × AreHeard more × (count_in counts (group_of v.who) < share) × IsCounted (group_of v.who) counts counts'
heard_by share may v u w counts counts' more e h same heard = counts_in (subst (λ b. MayListen b share v u counts counts') e h)
  where
    counts_in : MayListen true share v u counts counts' → (w ≡ v) × AreHeard more × (count_in counts (group_of v.who) < share) × IsCounted (group_of v.who) counts counts'
    counts_in (is, written, unasked, less, one) =
        let one_view = same ∙ is in
        (one_view, heard (ap (λ x. x.pending) one_view ∙ written) (ap (λ x. x.quits) one_view ∙ unasked), less, one)

-- the same, where the client was closed after that
pub counts_closed : (share : ℕ) (counts counts' : List ℕ) (v : View) (more last : Story) → AreHeard more × (count_in counts (group_of v.who) < share) × IsCounted (group_of v.who) counts counts' → SlotCounts share counts counts' (Some v) (more ++ last)
counts_closed share counts counts' v more last (some, less, one) = inr (heard_before more last some, less, one)

-- a client that may have another turn at once, whether it was passed over or not
pub tells_more : (l : Left) (v w : View) (more : Story) → is_more l ≡ true → LeftTells left.More v w more → LeftTells l v w more
tells_more left.More v w more e h = h
tells_more left.Passed v w more e h = h
tells_more left.Nothing v w more e h = absurd (never e)
  where
    never : false ≡ true → ⊥
    never e = cc
tells_more left.Blocked v w more e h = absurd (never e)
  where
    never : false ≡ true → ⊥
    never e = cc
tells_more left.Closed v w more e h = absurd (never e)
  where
    never : false ≡ true → ⊥
    never e = cc
