-- How the commits of a file are played.
use Rattle.std.proofs.Common.{◌≡◌, ◌<◌, ◌+◌, ◌-◌, ◌^◌, ℕ, suc, List, [], ◌∷◌, ◌++◌, length, take, drop}
use Rattle.std.proofs.Common.{refl, sym, ◌∙◌, ap, subst, arith, append_assoc, append-nil, length-append, take-append-drop, Option, Some, None, Ok, Err}
use Rattle.std.proofs.KnownBytes.{Consumes-trans}
use Rattle.std.specs.Io.KnownBytes.{Consumes, Keeps}
use Rattle.judy_journal.specs.Acts.{Left}
use Rattle.judy_journal.specs.Crashes.{FoundAll}
use Rattle.judy_journal.specs.Journals.{Commit}
use Rattle.judy_journal.specs.Notes.{changes_in}
use Rattle.judy_journal.specs.Noting.{HasSeen, Noting}
use Rattle.judy_journal.specs.Readings.{tail_of}
use Rattle.judy_journal.specs.Recovered.{AreAllFound, HasHalted, HasRecovered, HasUnpacked, IsRecovered, IsUnpacked, Recovering}
use Rattle.judy_journal.specs.Writes.{all_records}
use Rattle.judy_journal.specs.declared.reader.Read.{Read}
use Rattle.judy_journal.specs.declared.reader.Read.TheVariants.{More, Whole}
use Rattle.judy_journal.specs.declared.damage.Damage.{Damage}
use Rattle.judy_recovery.specs.Played.{Breaks, HasPlayed, IsDamagedFile, MayBreak, ReadsNext, ReadsOn, ReadsUpTo}
use Rattle.judy_recovery.specs.declared.pieces.Damaged.{Damaged}
use Rattle.judy_recovery.specs.declared.pieces.Stop.{Stop}
use Rattle.judy_recovery.specs.declared.pieces.Stop.TheVariants as stop
use Rattle.judy_recovery.specs.Played.{IsStopAt}

-- the records of commits and of more
pub all_records-append : (a b : List Commit) → all_records (a ++ b) ≡ all_records a ++ all_records b
all_records-append [] b = refl
all_records-append (x ∷ a) b = ap (λ v. changes_in x ++ v) (all_records-append a b) ∙ sym (append_assoc (changes_in x) (all_records a) (all_records b))

-- a front of bytes, by the length of the rest
front_of : (used rest bytes : List ℕ) (left : ℕ) → used ++ rest ≡ bytes → length rest ≡ left → used ≡ take (length bytes - left) bytes
front_of [] rest bytes left joins len =
    let e : length bytes - left ≡ 0 = omega (arith, ap length joins, len) in
    sym (ap (λ n. take n bytes) e)
front_of (u ∷ used) rest bytes left joins len =
    let e : length (u ∷ used ++ rest) - left ≡ suc (length (used ++ rest) - left) = omega (arith, length-append used rest, len) in
    let first : u ∷ used ≡ take (suc (length (used ++ rest) - left)) (u ∷ used ++ rest) =
    ap (λ v. u ∷ v) (front_of used rest (used ++ rest) left refl len) in
    subst (λ v. u ∷ used ≡ take (length v - left) v) joins (first ∙ ap (λ n. take n (u ∷ used ++ rest)) (sym e))

-- ---- bytes, one after another

-- what a recovery found in these bytes, of segments or of a snapshot
abbrev pub Reads : Read → Recovering → List ℕ → Recovering → Type 0
Reads found r bytes r' = (segment : ℕ) (sum : List ℕ) (done : List Left) (text : List ℕ) (commits : List Commit)
    → IsRecovered segment sum done text commits r → HasRecovered (Ok found) segment sum done text commits bytes r'

abbrev pub Unpacks : Read → Recovering → List ℕ → Recovering → Type 0
Unpacks found r bytes r' = (segment : ℕ) (sum : List ℕ) (text : List ℕ) (commits : List Commit)
    → IsUnpacked segment sum text commits r → HasUnpacked (Ok found) segment sum text commits bytes r'

module _ {P : Type 0} (plays : P → List (List ℕ) → P → Type 0) where
  -- what a player promises beside its calls
  pub record Laws : Type 0 where
    pub rests : (player : P) → plays player [] player
    pub joins : (before middle after : P) (records more : List (List ℕ)) → plays before records middle → plays middle more after
        → plays before (records ++ more) after

  module _ (laws : Laws) where
    -- bytes without the end of a commit
    played_none : (holds : List ℕ → List Commit → Recovering → Type 0) (text : List ℕ) (commits : List Commit) (bytes : List ℕ) (p : P)
        (r : Recovering) → holds (text ++ bytes) commits r → HasPlayed plays holds text commits bytes p r p
    played_none holds text commits bytes p r h = record {
      more = [];
      read = subst (λ v. holds (text ++ bytes) v r) (sym (append-nil commits)) h;
      played = laws.rests p;
    }

    -- bytes up to the end of a commit
    played_one : (holds : List ℕ → List Commit → Recovering → Type 0) (text : List ℕ) (commits : List Commit) (bytes : List ℕ) (old new : P)
        (r : Recovering) → holds (text ++ bytes) (commits ++ r.reading.records ∷ []) r
        → plays old (changes_in r.reading.records) new → HasPlayed plays holds text commits bytes old r new
    played_one holds text commits bytes old new r h played = record {
      more = r.reading.records ∷ [];
      read = h;
      played = subst (λ v. plays old v new) (sym (append-nil (changes_in r.reading.records))) played;
    }

    -- bytes and then more bytes
    played_more : (holds : List ℕ → List Commit → Recovering → Type 0) (text : List ℕ) (commits : List Commit) (xs ys : List ℕ)
        (old mid new : P) (r r' : Recovering) → HasPlayed plays holds text commits xs old r mid
        → ((text' : List ℕ) (commits' : List Commit) → holds text' commits' r → HasPlayed plays holds text' commits' ys mid r' new)
        → HasPlayed plays holds text commits (xs ++ ys) old r' new
    played_more holds text commits xs ys old mid new r r' h next =
        let k : HasPlayed plays holds (text ++ xs) (commits ++ h.more) ys mid r' new = next (text ++ xs) (commits ++ h.more) h.read in
        let read : holds (text ++ (xs ++ ys)) ((commits ++ h.more) ++ k.more) r' =
        subst (λ v. holds v ((commits ++ h.more) ++ k.more) r') (append_assoc text xs ys) k.read in
        record {
          more = h.more ++ k.more;
          read = subst (λ v. holds (text ++ (xs ++ ys)) v r') (append_assoc commits h.more k.more) read;
          played = subst (λ v. plays old v new) (sym (all_records-append h.more k.more))
              (laws.joins old mid new (all_records h.more) (all_records k.more) h.played k.played);
        }

    -- no bytes
    pub reads_none : (r : Recovering) (p : P) → ReadsOn plays r [] p r p
    reads_none r p = record {
      segments = λ segment sum done text commits h. played_none (IsRecovered segment sum done) text commits [] p r
          (subst (λ v. IsRecovered segment sum done v commits r) (sym (append-nil text)) h);
      snapshot = λ segment sum text commits h. played_none (IsUnpacked segment sum) text commits [] p r
          (subst (λ v. IsUnpacked segment sum v commits r) (sym (append-nil text)) h);
    }

    -- bytes and then more bytes
    pub reads_more : (r r' r'' : Recovering) (xs ys : List ℕ) (old mid new : P) → ReadsOn plays r xs old r' mid → ReadsOn plays r' ys mid r'' new
        → ReadsOn plays r (xs ++ ys) old r'' new
    reads_more r r' r'' xs ys old mid new h k = record {
      segments = λ segment sum done text commits was. played_more (IsRecovered segment sum done) text commits xs ys old mid new r' r''
          (h.segments segment sum done text commits was) (k.segments segment sum done);
      snapshot = λ segment sum text commits was. played_more (IsUnpacked segment sum) text commits xs ys old mid new r' r''
          (h.snapshot segment sum text commits was) (k.snapshot segment sum);
    }

    -- bytes without the end of a commit
    pub reads_front : (r r' : Recovering) (bytes : List ℕ) (p : P)
        → Reads More r bytes r' → Unpacks More r bytes r'
        → ReadsOn plays r bytes p r' p
    reads_front r r' bytes p read unpacked = record {
      segments = λ segment sum done text commits h. played_none (IsRecovered segment sum done) text commits bytes p r'
          (read segment sum done text commits h).0;
      snapshot = λ segment sum text commits h. played_none (IsUnpacked segment sum) text commits bytes p r'
          (unpacked segment sum text commits h).0;
    }

    -- bytes up to the end of a commit, whose records were played
    pub reads_commit : (r r' : Recovering) (bytes : List ℕ) (left : ℕ) (old new : P)
        → Reads (Whole left) r bytes r' → Unpacks (Whole left) r bytes r'
        → plays old (changes_in r'.reading.records) new
        → ReadsOn plays r (take (length bytes - left) bytes) old r' new
    reads_commit r r' bytes left old new read unpacked played = record {
      segments = λ segment sum done text commits h.
          let (used, rest, joins, len, is, whole) = read segment sum done text commits h in
          let is' : IsRecovered segment sum done (text ++ take (length bytes - left) bytes) (commits ++ r'.reading.records ∷ []) r' =
          subst (λ v. IsRecovered segment sum done (text ++ v) (commits ++ r'.reading.records ∷ []) r') (front_of used rest bytes left joins len) is in
          played_one (IsRecovered segment sum done) text commits (take (length bytes - left) bytes) old new r' is' played;
      snapshot = λ segment sum text commits h.
          let (used, rest, joins, len, is, whole) = unpacked segment sum text commits h in
          let is' : IsUnpacked segment sum (text ++ take (length bytes - left) bytes) (commits ++ r'.reading.records ∷ []) r' =
          subst (λ v. IsUnpacked segment sum (text ++ v) (commits ++ r'.reading.records ∷ []) r') (front_of used rest bytes left joins len) is in
          played_one (IsUnpacked segment sum) text commits (take (length bytes - left) bytes) old new r' is' played;
    }

    -- the rest has no end of a commit
    pub comes_last : (all rest : List ℕ) (first r r' : Recovering) (old p : P)
        → (used : List ℕ) × (used ++ rest ≡ all) × ReadsOn plays first used old r p
        → (found : Read) → found ≡ More → Reads found r rest r' → Unpacks found r rest r'
        → ReadsOn plays first all old r' p
    comes_last all rest first r r' old p (used, joins, reads) found is read unpacked =
        let last : ReadsOn plays r rest p r' p =
        reads_front r r' rest p (subst (λ f. Reads f r rest r') is read) (subst (λ f. Unpacks f r rest r') is unpacked) in
        subst (λ v. ReadsOn plays first v old r' p) joins (reads_more first r r' used rest old p p reads last)

    -- the rest goes on after the end of a commit, whose records were played
    pub comes_more : (all rest back : List ℕ) (left : ℕ) (first r r' : Recovering) (old mid new : P)
        → (used : List ℕ) × (used ++ rest ≡ all) × ReadsOn plays first used old r mid
        → back ≡ drop (length rest - left) rest
        → (found : Read) → found ≡ Whole left → Reads found r rest r' → Unpacks found r rest r'
        → plays mid (changes_in r'.reading.records) new
        → (used : List ℕ) × (used ++ back ≡ all) × ReadsOn plays first used old r' new
    comes_more all rest back left first r r' old mid new (used, joins, reads) is found whole read unpacked played =
        let front : List ℕ = take (length rest - left) rest in
        let next : ReadsOn plays r front mid r' new =
        reads_commit r r' rest left mid new (subst (λ f. Reads f r rest r') whole read) (subst (λ f. Unpacks f r rest r') whole unpacked) played in (
          used ++ front,
          append_assoc used front back ∙ ap (λ v. used ++ (front ++ v)) is ∙ ap (λ v. used ++ v) (take-append-drop (length rest - left) rest) ∙ joins,
          reads_more first r r' used front old mid new reads next,
        )

    -- a source gave more bytes, and they were read
    pub gives_more : (a b c : Option (List ℕ)) (more : List ℕ) (first r r' : Recovering) (old mid new : P)
        → (bytes : List ℕ) × Consumes a b bytes × ReadsOn plays first bytes old r mid → Consumes b c more → ReadsOn plays r more mid r' new
        → (bytes : List ℕ) × Consumes a c bytes × ReadsOn plays first bytes old r' new
    gives_more a b c more first r r' old mid new (bytes, given, reads) next reads' =
        (bytes ++ more, Consumes-trans a b c bytes more given next, reads_more first r r' bytes more old mid new reads reads')

    -- ---- damage

    -- damage was found at once
    breaks_here : (r r' : Recovering) (bytes : List ℕ) (p : P) (damage : Damage)
        → ((segment : ℕ) (sum : List ℕ) (done : List Left) (text : List ℕ) (commits : List Commit) → IsRecovered segment sum done text commits r
        → HasRecovered (Err damage) segment sum done text commits bytes r')
        → ((segment : ℕ) (sum : List ℕ) (done : List Left) (text : List ℕ) (commits : List Commit) → IsRecovered segment sum done text commits r
        → HasHalted segment sum done text commits bytes r')
        → Breaks plays damage r bytes p r' p
    breaks_here r r' bytes p damage damaged halted segment sum done text commits h =
        let (used, rest, cut, read, alone) = halted segment sum done text commits h in
        let same : commits ≡ commits ++ [] = sym (append-nil commits) in
        record {
          used = used;
          rest = rest;
          cut = cut;
          more = [];
          read = subst (λ v. IsRecovered segment sum done (text ++ used) v r') same read;
          played = laws.rests p;
          damaged = subst (λ v. IsDamagedFile damage segment sum done v (text ++ bytes)) same (damaged segment sum done text commits h);
          alone = subst (λ v. AreAllFound segment sum done text v bytes r' rest) same alone;
        }

    -- bytes, and then damage in more bytes
    breaks_more : (r r' r'' : Recovering) (xs ys : List ℕ) (old mid new : P) (damage : Damage) → ReadsOn plays r xs old r' mid
        → Breaks plays damage r' ys mid r'' new → Breaks plays damage r (xs ++ ys) old r'' new
    breaks_more r r' r'' xs ys old mid new damage reads breaks segment sum done text commits h =
        let k = reads.segments segment sum done text commits h in
        let b = breaks segment sum done (text ++ xs) (commits ++ k.more) k.read in
        let all : (commits ++ k.more) ++ b.more ≡ commits ++ (k.more ++ b.more) = append_assoc commits k.more b.more in
        record {
          used = xs ++ b.used;
          rest = b.rest;
          cut = append_assoc xs b.used b.rest ∙ ap (λ v. xs ++ v) b.cut;
          more = k.more ++ b.more;
          read = subst (λ v. IsRecovered segment sum done (text ++ (xs ++ b.used)) v r'') all
              (subst (λ v. IsRecovered segment sum done v ((commits ++ k.more) ++ b.more) r'') (append_assoc text xs b.used) b.read);
          played = subst (λ v. plays old v new) (sym (all_records-append k.more b.more))
              (laws.joins old mid new (all_records k.more) (all_records b.more) k.played b.played);
          damaged = subst (λ v. IsDamagedFile damage segment sum done v (text ++ (xs ++ ys))) all
              (subst (λ v. IsDamagedFile damage segment sum done ((commits ++ k.more) ++ b.more) v) (append_assoc text xs ys) b.damaged);
          alone = λ short small more.
              let same : (text ++ xs) ++ (ys ++ more) ≡ text ++ ((xs ++ ys) ++ more) =
              append_assoc text xs (ys ++ more) ∙ ap (λ v. text ++ v) (sym (append_assoc xs ys more)) in
              let last : List ℕ → List Left = λ v. done ++ record { number = segment + length done + 1; bytes = v } ∷ [] in
              subst (λ v. FoundAll segment sum (last (text ++ ((xs ++ ys) ++ more))) v (tail_of r''.reading ++ (b.rest ++ more))) all
              (subst (λ v. FoundAll segment sum (last v) ((commits ++ k.more) ++ b.more) (tail_of r''.reading ++ (b.rest ++ more))) same
              (b.alone short (subst (λ v. length v < 2 ^ 64) (sym (append_assoc text xs ys)) small) more));
        }

    -- damage was found in the rest
    pub comes_broken : (all rest : List ℕ) (first r r' : Recovering) (old p : P) (damage : Damage) (at : Stop)
        → (used : List ℕ) × (used ++ rest ≡ all) × ReadsOn plays first used old r p
        → ((segment : ℕ) (sum : List ℕ) (done : List Left) (text : List ℕ) (commits : List Commit) → IsRecovered segment sum done text commits r
        → HasRecovered (Err damage) segment sum done text commits rest r')
        → ((segment : ℕ) (sum : List ℕ) (done : List Left) (text : List ℕ) (commits : List Commit) → IsRecovered segment sum done text commits r
        → HasHalted segment sum done text commits rest r')
        → IsStopAt damage at → MayBreak plays at first all old r' p
    comes_broken all rest first r r' old p damage (stop.Damaged found) (used, joins, reads) damaged halted is =
        subst (λ v. Breaks plays v first all old r' p) (sym is)
        (subst (λ v. Breaks plays damage first v old r' p) joins
        (breaks_more first r r' used rest old p p damage reads (breaks_here r r' rest p damage damaged halted)))
    comes_broken all rest first r r' old p damage (stop.Flaw byte flaw) invariant damaged halted is = tt
    comes_broken all rest first r r' old p damage stop.Fault invariant damaged halted is = tt

    -- bytes, and then more bytes unless there was damage before them
    pub next_more : (found next : Option Damaged) (r r' r'' : Recovering) (xs ys : List ℕ) (old mid new : P) → ReadsUpTo plays found r xs old r' mid
        → ReadsNext plays found next r' ys mid r'' new → ReadsUpTo plays next r (xs ++ ys) old r'' new
    next_more None None r r' r'' xs ys old mid new h k = reads_more r r' r'' xs ys old mid new h k
    next_more None (Some found) r r' r'' xs ys old mid new h (seen, more, cut, breaks) = (
      xs ++ seen,
      more,
      append_assoc xs seen more ∙ ap (λ v. xs ++ v) cut,
      breaks_more r r' r'' xs seen old mid new found.damage h breaks,
    )
    next_more (Some found) next r r' r'' xs ys old mid new (seen, more, cut, breaks) (same, stays, rests) =
        subst (λ v. ReadsUpTo plays v r (xs ++ ys) old r'' new) (sym same) (
          seen,
          more ++ ys,
          sym (append_assoc seen more ys) ∙ ap (λ v. v ++ ys) cut,
          subst (λ v. Breaks plays found.damage r seen old v new) (sym stays)
              (subst (λ v. Breaks plays found.damage r seen old r' v) (sym rests) breaks),
        )

    -- a source gave more bytes of the last file, and they were read
    pub gives_next : (a b c : Option (List ℕ)) (more : List ℕ) (first r r' : Recovering) (old mid new : P) (found next : Option Damaged) (n n' n'' : Noting)
        → (bytes : List ℕ) × Consumes a b bytes × ((segment : ℕ) (text : List ℕ) → HasSeen segment text n → HasSeen segment (text ++ bytes) n')
        × ReadsUpTo plays found first bytes old r mid
        → Consumes b c more → ((segment : ℕ) (text : List ℕ) → HasSeen segment text n' → HasSeen segment (text ++ more) n'')
        → ReadsNext plays found next r more mid r' new
        → (bytes : List ℕ) × Consumes a c bytes × ((segment : ℕ) (text : List ℕ) → HasSeen segment text n → HasSeen segment (text ++ bytes) n'')
        × ReadsUpTo plays next first bytes old r' new
    gives_next a b c more first r r' old mid new found next n n' n'' (bytes, given, noted, reads) given' noted' reads' = (
      bytes ++ more,
      Consumes-trans a b c bytes more given given',
      λ segment text h. subst (λ v. HasSeen segment v n'') (append_assoc text bytes more) (noted' segment (text ++ bytes) (noted segment text h)),
      next_more found next first r r' bytes more old mid new reads reads',
    )

-- bytes that were consumed, and a source that stays
pub keeps_after : (a b c : Option (List ℕ)) (bytes : List ℕ) → Consumes a b bytes → Keeps b c → Consumes a c bytes
keeps_after None b c bytes given stays = tt
keeps_after (Some xs) None c bytes given stays = absurd given
keeps_after (Some xs) (Some ys) None bytes given stays = absurd stays
keeps_after (Some xs) (Some ys) (Some zs) bytes given stays = given ∙ ap (λ v. bytes ++ v) (sym stays)

-- what stands behind no damage, and what stands behind it
pub next_broken : {P : Type 0} (plays : P → List (List ℕ) → P → Type 0) (found : Option Damaged) (damaged : Damaged) (at : Stop) (r r' : Recovering)
    (bytes : List ℕ) (old new : P) → found ≡ None → at ≡ stop.Damaged damaged → MayBreak plays at r bytes old r' new
    → ReadsNext plays found (Some damaged) r bytes old r' new
next_broken plays found damaged at r r' bytes old new none is breaks =
    let b : MayBreak plays (stop.Damaged damaged) r bytes old r' new = subst (λ s. MayBreak plays s r bytes old r' new) is breaks in
    subst (λ f. ReadsNext plays f (Some damaged) r bytes old r' new) (sym none) (bytes, [], append-nil bytes, b)
