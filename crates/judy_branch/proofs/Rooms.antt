-- The sizes that blocks have.
use Rattle.std.proofs.Common.{◌≡◌, ℕ, suc, ◌*◌, ◌^◌, ◌<◌, ◌≤◌, ap, sym, ◌∙◌, arith, inl, inr}
use Rattle.std.proofs.lemmas.Bool.{cases_lt}
use Rattle.std.proofs.Math.Pow.{pow_mono}
use Rattle.judy_arena.specs.Room.{room}
use Rattle.judy_arena.proofs.lemmas.RoomLaws.{room-covers as covers, room-least, room-tight}
use Rattle.judy_branch.specs.Children.{IsRoom}

pub room-covers : (n : ℕ) → n ≤ room n
room-covers n = covers n

-- what fits into a block fits into the size for it
pub room-same : (m n : ℕ) → m ≤ n → n ≤ room m → room n ≡ room m
room-same m n h g =
    let up = room-tight.rises m n h in
    let down = room-tight.rises n (room m) g in
    let again = room-tight.again m in
    omega arith

pow_suc : (j : ℕ) → 2 ^ suc j ≡ 2 * 2 ^ j
pow_suc j = omega arith

doubled : (i j : ℕ) → j < i → 2 * 2 ^ j ≤ 2 ^ i
doubled i j h = let m : 2 ^ suc j ≤ 2 ^ i = pow_mono (omega arith) in let e : 2 ^ suc j ≡ 2 * 2 ^ j = pow_suc j in omega arith

-- a block of which more than half is used has the size for what is used
pub room-full : (m n : ℕ) → IsRoom n → m ≤ n → n < 2 * m → room m ≡ n
room-full m n r h g =
    let top = room-tight.most r.0 r.1 in
    let is = r.2 in
    let of_n = room-least.class r.0 r.1 in
    let of_m = room-least.class m (omega arith) in
    let same = room-tight.again r.0 in
    let at : room n ≡ n = ap room is ∙ same ∙ sym is in
    let up = room-tight.rises m n h in
    let cover = covers m in
    elim (cases_lt of_m.0 of_n.0) [
      | inl lt ↦ absurd (let d = doubled of_n.0 of_m.0 lt in let e = of_n.1.1 in let f = of_m.1.1 in omega arith)
      | inr ge ↦ let d = rises of_n.0 of_m.0 ge in let e = of_n.1.1 in let f = of_m.1.1 in omega arith
    ]
  where
    rises : (i j : ℕ) → i ≤ j → 2 ^ i ≤ 2 ^ j
    rises i j h = pow_mono h

-- a few words have a size of at most 8
pub room-eight : (n : ℕ) → n ≤ 8 → room n ≤ 8
room-eight n h = room-least.least n 1 h (omega arith)

pub room-most : (n : ℕ) → n ≤ 512 → room n ≤ 512
room-most n h = room-tight.most n h

pub room-twice : (n : ℕ) → 4 ≤ n → room n ≤ 2 * n
room-twice n h = room-tight.twice n h
