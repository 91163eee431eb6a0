mod Added
mod Asked
mod Finishing
mod Played
mod Printed
mod Removing
mod Scanned
mod Words
