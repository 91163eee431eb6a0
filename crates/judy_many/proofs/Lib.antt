mod Accepting
mod Admitted
mod Hearing
mod Inquiring
mod Beginning
mod Beside
pub mod Chaining
mod Claims
mod Closing
mod Crowding
pub mod Journals
mod Disk
mod Kicking
mod Known
mod Looking
mod Limiting
mod Living
pub mod Logins
mod OneSlot
mod Owning
pub mod Passing
mod Presence
mod Questioning
mod Queueing
mod Seats
pub mod Recording
pub mod Seeing
mod Sharing
mod Sifting
mod Singles
pub mod Stepping
mod Telling
mod Turning
mod Watching
pub mod Unchanged
mod Written
mod Warned
