mod Cut
mod Totals
mod TakenPart
mod Fits
mod OneClass
